-- What can be said of lists: a row that is written is read, and judged once; every row can be written; the tally adds up. Each function's proof
-- stands in a folder of its own.
pub mod Reading
pub mod Writing
pub mod JudgedOnce
pub mod Adding
pub mod Facts
