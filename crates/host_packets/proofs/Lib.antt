-- Moved: packet calls on scalars that were read from arrays and put into them. Fronts: a front that is copied.
-- OneResult: any two results coincide.
pub mod Moved
pub mod Fronts
pub mod OneResult
