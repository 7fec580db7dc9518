-- A take's answers as the ledger's, and its plan as the model's.
pub mod Answers
