-- OneResult: any two results that a contract allows are the same values.
pub mod OneResult
