-- What the questions answer, in the ledger's terms.
pub mod Answers
