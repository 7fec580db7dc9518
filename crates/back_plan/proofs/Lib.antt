-- Sides: the plan from what lies on each side.
pub mod Sides
