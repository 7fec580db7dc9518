-- Columns: the two columns of the full report.
pub mod Columns
