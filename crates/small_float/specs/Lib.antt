-- What a size class is. Class has the definitions, Table and Facts what document 01 says of them, LastValues the sixteen values that document 02
-- asks for, RoundedUp what the rounding up answers, Smallest what the smallest-store question answers, and OneResult that each contract allows one result.
pub mod Class
pub mod Table
pub mod LastValues
pub mod Facts
pub mod RoundedUp
pub mod Smallest
pub mod OneResult
