-- The head's scalars, and how the code's values make the words of tables/specs.
pub mod InWords
