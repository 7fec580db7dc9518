-- The documents' number for each refusal. (7, of the smallest-store question, is small_float's.) Assumes nothing.
use Rattle.std.specs.Prelude.{◌≡◌, ℕ, ◌≤◌, ◌≢◌}
use Rattle.answers.specs.declared.Refusal.{Refusal}
use Rattle.answers.specs.declared.Refusal.TheVariants.{BadCount, TableTooShort, NoSpareRecord, NoRegion, NotLive, Unsound, StartsElsewhere}

abbrev pub number_of : Refusal → ℕ
number_of BadCount = 1
number_of TableTooShort = 2
number_of NoSpareRecord = 3
number_of NoRegion = 4
number_of NotLive = 5
number_of Unsound = 6
number_of StartsElsewhere = 8

-- told from the other side, so that a number says which refusal it is; proofs/Numbers.antt makes it
pub record NumberMeans : Type 0 where
  pub none_shared : (why other : Refusal) → number_of why ≡ number_of other → why ≡ other
  -- none is 0, by which the gate tells that it is open, and none is 7
  pub in_range : (why : Refusal) → (1 ≤ number_of why) × (number_of why ≤ 8) × (number_of why ≢ 7)
