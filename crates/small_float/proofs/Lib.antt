-- The argument's order: a size in parts, the values of classes, what rounding gives, document 01's facts, its table and document 02's values, and the smallest
-- stores.
-- Straight and Ceiling are the code's way: both roundings without a case for small sizes, and the one that rounds up in signed numbers.
-- Told is what a caller of the rounding up goes by, and Coincide shows that each contract allows one result only.
pub mod Parts
pub mod Values
pub mod Rounding
pub mod Facts
pub mod Told
pub mod Rows
pub mod Table
pub mod LastValues
pub mod Smallest
pub mod Straight
pub mod Ceiling
pub mod Coincide
