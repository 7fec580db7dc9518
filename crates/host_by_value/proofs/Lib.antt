-- Audited: the audit of words that were put together elsewhere.
pub mod Audited
