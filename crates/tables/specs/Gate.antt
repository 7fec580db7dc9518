-- What comes before all else in a call: the head's count, then the lengths of the tables. Assumes nothing.
use Rattle.std.specs.Prelude.{cond, List, [], ◌∷◌, ℕ, zero, suc, ltb, length}
use Rattle.ledger.specs.Ledger.{Answer, refused}
use Rattle.tables.specs.Layout.{nodes_needed, pile_needed}
use Rattle.tables.specs.Words.{Words, Edition}

-- `bad` for a count out of its limits (6, at setup 1), otherwise what comes after
abbrev pub counted : Edition → (bad count after : ℕ) → ℕ
counted E bad count after = cond (ltb count 2) bad (cond (ltb E.limit count) bad after)

-- at setup: 10 for a store larger than the edition allows, otherwise what comes after
abbrev pub sized : Edition → (size after : ℕ) → ℕ
sized E size after = cond (ltb E.greatest size) 10 after

-- of lent tables, each told by its length and the words that are needed of it: 2 where one is too short
abbrev pub short : List (ℕ × ℕ) → ℕ
short [] = 0
short (table ∷ tables) = cond (ltb table.0 table.1) 2 (short tables)

-- the two tables that every call is lent, of these lengths
abbrev pub lent_for : (count nodes pile : ℕ) → List (ℕ × ℕ)
lent_for count nodes pile = (nodes, nodes_needed count) ∷ (pile, pile_needed count) ∷ []

-- 0 where the call may go on
unfoldable pub gate : Edition → (bad count nodes pile : ℕ) → ℕ
gate E bad count nodes pile = counted E bad count (short (lent_for count nodes pile))

-- the gate of a setup: "count (1 at setup ..), then lengths (2)", and between them the size
unfoldable pub setup_gate : Edition → (size count nodes pile : ℕ) → ℕ
setup_gate E size count nodes pile = counted E 1 count (sized E size (short (lent_for count nodes pile)))

-- the gate of a call on existing words
unfoldable pub gate_of : Edition → Words → ℕ
unfolding gate
gate_of E w = gate E 6 w.count (length w.nodes) (length w.pile)

-- a refused call gives its number, and what it was lent as it came
unfoldable pub gated : {Lent : Type 0} → ℕ → Lent → Answer × Lent → Answer × Lent
gated zero lent outcome = outcome
gated (suc k) lent outcome = (refused (suc k), lent)
