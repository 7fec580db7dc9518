-- Readings: a reading of the gauge in plain numbers, and that it is the only one that is allowed.
pub mod Readings
