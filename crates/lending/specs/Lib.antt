-- OneResult: any two results that a contract allows are the same values of the code.
pub mod OneResult
