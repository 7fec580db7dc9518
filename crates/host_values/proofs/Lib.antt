-- Figures: those of a refusal. Kept: scalars in an array. OneResult: any two results that a contract allows coincide.
pub mod Figures
pub mod Kept
pub mod OneResult
