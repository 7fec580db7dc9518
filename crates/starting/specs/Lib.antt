-- The lengths that a count of records needs.
pub mod Lengths
