-- Verdicts: when a row of the list of runs agrees with the row that the port would write. Facts: what that tells.
pub mod Verdicts
pub mod Facts
