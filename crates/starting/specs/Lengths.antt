-- The lengths of the lent tables for a count of records. Assumes nothing.
use Rattle.std.specs.Prelude.{◌≡◌, ◌↔◌, ℕ, ◌≤◌, Result, Ok, Err}
use Rattle.tables.specs.Layout.{nodes_needed, pile_needed}
use Rattle.tables.specs.Words.{Edition}
use Rattle.tables.specs.Room.{Room}
use Rattle.tables.specs.Claims.{BadCount}
use Rattle.answers.specs.declared.Refusal.{Refusal}
use Rattle.answers.specs.Refusals.{number_of}
use Rattle.starting.specs.declared.lengths.Lengths.{Lengths}

-- one word of scratch to a record, as of the pile
pub record Needed (count : ℕ) (l : Lengths) : Type 0 where
  pub nodes_needed_lem : l.nodes ≡ nodes_needed count
  pub pile_needed_lem : l.free_nodes ≡ pile_needed count
  pub scratch_needed : l.scratch ≡ count

-- the lengths for a count within its limits, and refusal 1 for any other
abbrev pub LengthsFor : Edition → ℕ → Result Lengths Refusal → Type 0
LengthsFor E count (Ok l) = ((2 ≤ count) × (count ≤ E.limit)) × Needed count l
LengthsFor E count (Err why) = BadCount E count × (number_of why ≡ 1)

-- what Needed says, from the other side; proofs/LongEnough.antt makes it. Of the scratch the crate that has both, offset_allocator, says the same
pub record LengthFacts (E : Edition) : Type 0 where
  -- with a good count there is room exactly where no table is shorter than this
  pub room_exactly : (count : ℕ) (l : Lengths) → Needed count l → 2 ≤ count → count ≤ E.limit → (nodes pile : ℕ)
      → Room E count nodes pile ↔ ((l.nodes ≤ nodes) × (l.free_nodes ≤ pile))
  -- a count has one answer
  pub one_result : (count : ℕ) (a b : Result Lengths Refusal) → LengthsFor E count a → LengthsFor E count b → a ≡ b
