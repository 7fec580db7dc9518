-- Decimals: a number's digits. Puts: texts put one behind the other; Backwards: a number put from its end. Scanning: what stands in front of a text;
-- Judging: where its first word stands. ReadBack, OtherSide: what is claimed of these; Facts: all of it; Rows: a dozen lines.
pub mod Decimals
pub mod Puts
pub mod Backwards
pub mod Scanning
pub mod Judging
pub mod ReadBack
pub mod OtherSide
pub mod Facts
pub mod Rows
