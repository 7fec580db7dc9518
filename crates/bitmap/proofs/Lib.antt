-- Told: the number that tells what a search found. Low: the lowest set bit of a number of so many bits is one of them. Shifted: 1 shifted.
pub mod Told
pub mod Low
pub mod Shifted
