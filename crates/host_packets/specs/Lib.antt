-- Kept: a store as a program outside of Rattle keeps it. Flat: stores, packets and answers in plain numbers. OneResult: any two results coincide.
pub mod Kept
pub mod Flat
pub mod OneResult
