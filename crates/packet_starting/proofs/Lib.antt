-- NoneLeft: a refused setup of both.
pub mod NoneLeft
