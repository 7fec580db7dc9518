-- PutBack: what the call in place promises of the scalars by value it promises of the array. OneResult: any two results that a contract allows are the
-- same values.
pub mod PutBack
pub mod OneResult
