-- Columns: a full report, a class at a time. Promised: from a promise and what was told of it to what a call made.
pub mod Columns
pub mod Promised
