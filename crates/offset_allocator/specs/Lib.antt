-- HeadWords: how a head and its tables make the words of tables/specs. Scratch: how long the audit's scratch must be.
-- OneResult: any two results that a contract allows are the same values of the code.
pub mod HeadWords
pub mod Scratch
pub mod OneResult
