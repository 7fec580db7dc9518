-- What the smallest-store question answers: document 01's number and figure for each case. Assumes nothing.
use Rattle.std.specs.Prelude.{◌≡◌, ℕ, cond, ltb, Result, Ok, Err}
use Rattle.std.proofs.Math.Option.{Option, none, some}
use Rattle.small_float.specs.declared.Size.{Size}
use Rattle.small_float.specs.declared.ext.TooLarge.{TooLarge}
use Rattle.small_float.specs.Class.{value, greatest_served, rounded_up}

-- the refusal's number, 0 for an answer
abbrev pub refusal_of : Result Size TooLarge → ℕ
refusal_of (Ok size) = 0
refusal_of (Err why) = 7

-- the store's size; "every refusal returns its number, figures of 0"
abbrev pub store_of : Result Size TooLarge → ℕ
store_of (Ok size) = size.0
store_of (Err why) = 0

-- the value of the class that an object is rounded up to; where there is none, the figure of a refusal
abbrev pub figure_for : Option ℕ → ℕ
figure_for (some class) = value class
figure_for none = 0

-- "object above 4,026,531,840": refused exactly there; otherwise the value of the class that the object is rounded up to
pub record SmallestStore (object : ℕ) (answer : Result Size TooLarge) : Type 0 where
  pub number : refusal_of answer ≡ cond (ltb greatest_served object) 7 0
  pub figure : store_of answer ≡ figure_for (rounded_up object)

-- "the smallest store for 17 is 18"; 4,026,531,840 is the last that has one, which is its own, and the next is refused
pub record SmallestRows : Type 0 where
  pub of_17 : SmallestStore 17 (Ok record { 0 = 18 })
  pub the_last : SmallestStore 4_026_531_840 (Ok record { 0 = 4_026_531_840 })
  pub the_next : SmallestStore 4_026_531_841 (Err record {})
