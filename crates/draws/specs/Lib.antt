-- What is drawn from a seed.
pub mod Draws
