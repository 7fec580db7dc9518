-- Steps: what comes of one record. Meaning: what a journal means. Replays: a replay, told by what its steps promise. Rows: journals with
-- their answers. Claims: what is claimed of a replay.
pub mod Steps
pub mod Meaning
pub mod Replays
pub mod Rows
pub mod Claims
