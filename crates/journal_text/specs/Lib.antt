-- Calls and answers as lines of text: Decimal: a number's digits; Texts: the line of a call and of an answer; Words: how a line is taken apart; Lines:
-- what it holds. Facts: what can be said of these; Rows: a dozen lines.
pub mod Decimal
pub mod Texts
pub mod Words
pub mod Lines
pub mod Facts
pub mod Rows
