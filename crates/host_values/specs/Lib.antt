-- Tells: the shape of every contract for programs outside of Rattle. Told: an answer as a number and two figures. Kept: the words of such a program.
-- OneResult: any two results that a contract of that shape allows coincide.
pub mod Tells
pub mod Told
pub mod Kept
pub mod OneResult
