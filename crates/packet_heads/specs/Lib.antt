-- HeadStores: a store whose head comes by value.
-- OneResult: any two results that a contract allows are the same values of the code.
pub mod HeadStores
pub mod OneResult
