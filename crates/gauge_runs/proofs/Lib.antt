-- Readings: what one reading does. Runs: runs with readings from the other side, and as runs of calls alone. Nets: net changes add up. Claims: all of it.
pub mod Readings
pub mod Runs
pub mod Nets
pub mod Claims
