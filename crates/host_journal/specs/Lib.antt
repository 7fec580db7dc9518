-- Written, Read, Stepped: a record written, what stands at a place, and a step of a replay, in plain numbers. NamedAgain: what was read can be written.
-- OneResult: any two results coincide.
pub mod Written
pub mod Read
pub mod Stepped
pub mod NamedAgain
pub mod OneResult
