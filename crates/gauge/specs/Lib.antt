-- Rule: document 02's rule on numbers. Claims: what is claimed of it. Answers: what a reading answers and leaves, by what the store told. Promise: what a
-- reading of a store in words promises. OneReading: any two results that it allows coincide.
pub mod Rule
pub mod Claims
pub mod Answers
pub mod Promise
pub mod OneReading
