-- Bytes: a part of a store, and the store with a part written.
pub mod Bytes
