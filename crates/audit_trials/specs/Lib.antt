-- Placed: where a word is put.
pub mod Placed
