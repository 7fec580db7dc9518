-- Facts that belong to no layer.
pub mod Decided
pub mod Clash
pub mod Extremes
pub mod Sums
pub mod Counts
pub mod Pigeons
pub mod Lists
