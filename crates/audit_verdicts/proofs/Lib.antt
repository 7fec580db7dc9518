-- Means: what a row that agrees tells, and that one that differs does not agree.
pub mod Means
