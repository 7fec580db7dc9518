-- Promised: a promise said of the call as it came, with the answer as it was given. OneMade: one outcome.
pub mod Promised
pub mod OneMade
