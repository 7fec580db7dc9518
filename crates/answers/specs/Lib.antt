-- Refusals: document 01's numbers for them. Answers: what each answer is in the ledger's terms. OneValue: an answer is given by what it says.
-- Asked: what a caller's arguments ask for.
pub mod Refusals
pub mod Answers
pub mod OneValue
pub mod Asked
