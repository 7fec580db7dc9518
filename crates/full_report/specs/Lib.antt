-- The walk of a list, as the model's.
pub mod Walks
