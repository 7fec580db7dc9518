-- Audited: what a row that audits is held against.
pub mod Audited
