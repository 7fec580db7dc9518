-- Runs: runs of the calls in code. Demands: the three demands of them.
pub mod Runs
pub mod Demands
