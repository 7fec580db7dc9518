-- Copied: a call is lent a copy of the scalars. Scratch: the scratch that a count needs. OneResult: any two results that a contract allows are
-- the same values.
pub mod Copied
pub mod Scratch
pub mod OneResult
