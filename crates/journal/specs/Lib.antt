-- Refusals: document 02's numbers. Bytes: numbers as bytes. Writing: a call's record, a journal. Reading: what stands at a place, and what calls a
-- journal holds. Claims: what is claimed of them.
pub mod Refusals
pub mod Bytes
pub mod Writing
pub mod Reading
pub mod Claims
