-- LongEnough: what the lengths for a count come to.
pub mod LongEnough
