-- Numbers: each refusal has a number of its own, and none has 0. Figures: those of a refused full report are 0.
pub mod Numbers
pub mod Figures
pub mod OneValue
