-- Definitions that belong to no layer.
pub mod Sum
pub mod Extreme
