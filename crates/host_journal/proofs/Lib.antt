-- NamedAgain: what was read can be written. KnownKinds: what is written by them. Moved: a step on scalars that were read from an array and put into it.
-- OneResult: any two results coincide.
pub mod NamedAgain
pub mod KnownKinds
pub mod Moved
pub mod OneResult
