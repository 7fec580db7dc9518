-- The walk of a list, as the model's. Assumes nothing.
use Rattle.std.specs.Prelude.{ℕ, Option, Some, None}
use Rattle.tables.specs.Questions.{Walked, steps, lost}

abbrev pub walked_of : Option ℕ → Walked
walked_of (Some n) = steps n
walked_of None = lost
