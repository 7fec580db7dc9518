-- Rows: when a row of the gauge's list agrees with what a reading answered and left. Facts: what that tells.
pub mod Rows
pub mod Facts
