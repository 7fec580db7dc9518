-- What the verdict on a row of the list of runs tells: it agrees only with its own letter and last two numbers. One record, which proofs/Facts.antt
-- makes. Assumes nothing.
use Rattle.std.specs.Prelude.{◌≡◌, ◌⊎◌, Option, Some}
use Rattle.oracle_lists.specs.declared.rows.Reader.{Reader}
use Rattle.oracle_lists.specs.declared.tally.Verdict.TheVariants.{Agrees, Listed}
use Rattle.call_verdicts.specs.declared.Said.{Said}
use Rattle.call_verdicts.specs.Verdicts.{call_verdict}

pub record VerdictFacts : Type 0 where
  -- a row of the list of runs agrees with one letter and two numbers alone, and where no row is said with nothing
  pub agrees_only : (r : Reader) (s : Option Said) → call_verdict r s ≡ Agrees
      → (t : Said) × ((s ≡ Some t) × ((r.letter ≡ t.letter) × (r.c ≡ t.c) × (r.d ≡ t.d)))
  -- and shows a listed difference with its own letter alone: u or m with its own record, or b or w with both its own numbers
  pub listed_only : (r : Reader) (s : Option Said) → call_verdict r s ≡ Listed
      → (t : Said) × ((s ≡ Some t) × ((r.letter ≡ t.letter)
      × (r.c ≡ t.c)
      × (((r.letter ≡ 117) ⊎ (r.letter ≡ 109)) ⊎ (((r.letter ≡ 98) ⊎ (r.letter ≡ 119)) × (r.d ≡ t.d)))))
