-- Moved: a reading of words and a gauge that were put together elsewhere. OneReading: any two results coincide.
pub mod Moved
pub mod OneReading
