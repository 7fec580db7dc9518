-- The words of an allocator as a program outside of Rattle keeps them: the scalars too stand in an array. Assumes nothing.
use Rattle.std.specs.Prelude.{List, ℕ}
use Rattle.tables.specs.Words.{Words}
use Rattle.records.specs.InWords.{words_of, of_array}

abbrev pub words_in : (scalars heads leaves nodes pile : List ℕ) → Words
words_in scalars heads leaves nodes pile = words_of (of_array scalars) heads leaves nodes pile
