-- The gate, exactly: `bad` for a count out of its limits, then 2 for a table too short, otherwise open; and what it means for a call and for
-- a setup. Assumes nothing.
use mathlib.Core.Path.{◌≡◌, refl, sym, ◌∙◌}
use mathlib.Core.Logic.{◌⊎◌, inl, inr}
use Prim.Native.Nat.{ℕ, zero, suc, ◌<◌, ◌≤◌}
use native.Mathlib.Omega.{arith}
use lib.ListN.{length}
use borrow.Author.Tests.{le-ltb}
use Rattle.basics.proofs.Decided.{Below, below, beyond, below?}
use Rattle.ledger.specs.Ledger.{Answer, done, refused}
use Rattle.ledger.specs.Calls.{Call}
use Rattle.tables.specs.Layout.{nodes_needed, pile_needed}
use Rattle.tables.specs.Words.{Words, Edition}
use Rattle.tables.specs.Gate.{gate, setup_gate, gate_of, gated}
use Rattle.tables.specs.Setup.{Lent, fresh, zeros, setup_words}
use Rattle.tables.specs.Calls.{behind, answer_words}
use Rattle.tables.specs.Room.{Room}
use Rattle.tables.specs.Claims.{BadCount, TooShort, TooLarge}

-- ---- what the gate says of a count and two lengths
pub data Gated (E : Edition) (bad count nodes pile : ℕ) : Type 0 where
  bad_count : BadCount E count → gate E bad count nodes pile ≡ bad → Gated E bad count nodes pile
  too_short : TooShort E count nodes pile → gate E bad count nodes pile ≡ 2 → Gated E bad count nodes pile
  open_gate : Room E count nodes pile → gate E bad count nodes pile ≡ 0 → Gated E bad count nodes pile

pub gated? : (E : Edition) (bad count nodes pile : ℕ) → Gated E bad count nodes pile
unfolding gate
gated? E bad count nodes pile =
    go (below? count 2) (below? E.limit count) (below? nodes (nodes_needed count)) (below? pile (pile_needed count))
  where
    go : Below count 2 → Below E.limit count → Below nodes (nodes_needed count) → Below pile (pile_needed count)
        → Gated E bad count nodes pile
    go (below a e) b c d = bad_count (inl a) (rw e)
    go (beyond a e) (below b f) c d = bad_count (inr b) (rw (e, f))
    go (beyond a e) (beyond b f) (below c g) d = too_short ((a, b), inl c) (rw (e, f, g))
    go (beyond a e) (beyond b f) (beyond c g) (below d h) = too_short ((a, b), inr d) (rw (e, f, g, h))
    go (beyond a e) (beyond b f) (beyond c g) (beyond d h) =
        open_gate record { count_low = a; count_high = b; nodes_room = c; pile_room = d } (rw (e, f, g, h))

-- the three are apart
pub room_not_bad : (E : Edition) (count nodes pile : ℕ) → Room E count nodes pile → BadCount E count → ⊥
room_not_bad E count nodes pile r (inl h) = omega (arith, r.count_low)
room_not_bad E count nodes pile r (inr h) = omega (arith, r.count_high)

pub room_not_short : (E : Edition) (count nodes pile : ℕ) → Room E count nodes pile → TooShort E count nodes pile → ⊥
room_not_short E count nodes pile r s = go s.1
  where
    go : (nodes < nodes_needed count) ⊎ (pile < pile_needed count) → ⊥
    go (inl h) = omega (arith, r.nodes_room)
    go (inr h) = omega (arith, r.pile_room)

pub short_not_bad : (E : Edition) (count nodes pile : ℕ) → TooShort E count nodes pile → BadCount E count → ⊥
short_not_bad E count nodes pile s (inl h) = omega (arith, s.0.0)
short_not_bad E count nodes pile s (inr h) = omega (arith, s.0.1)

pub large_not_bad : (E : Edition) (size count : ℕ) → TooLarge E size count → BadCount E count → ⊥
large_not_bad E size count s (inl h) = omega (arith, s.0.0)
large_not_bad E size count s (inr h) = omega (arith, s.0.1)

-- ---- the two laws that callers use
pub room_opens : (E : Edition) (bad count nodes pile : ℕ) → Room E count nodes pile → gate E bad count nodes pile ≡ 0
room_opens E bad count nodes pile r = elim (gated? E bad count nodes pile) [
  | bad_count h e ↦ absurd (room_not_bad E count nodes pile r h)
  | too_short h e ↦ absurd (room_not_short E count nodes pile r h)
  | open_gate h e ↦ e
]

pub open_has_room : (E : Edition) (bad count nodes pile : ℕ) → gate E (suc bad) count nodes pile ≡ 0 → Room E count nodes pile
open_has_room E bad count nodes pile z = elim (gated? E (suc bad) count nodes pile) [
  | bad_count h e ↦ absurd (omega (arith, z, e))
  | too_short h e ↦ absurd (omega (arith, z, e))
  | open_gate h e ↦ h
]

-- the same of the gate of a call on existing words
pub room_opens_gate : (E : Edition) (w : Words) → Room E w.count (length w.nodes) (length w.pile) → gate_of E w ≡ 0
unfolding gate_of
room_opens_gate E w r = room_opens E 6 w.count (length w.nodes) (length w.pile) r

pub gate_has_room : (E : Edition) (w : Words) → gate_of E w ≡ 0 → Room E w.count (length w.nodes) (length w.pile)
unfolding gate_of
gate_has_room E w e = open_has_room E 5 w.count (length w.nodes) (length w.pile) e

-- ---- the gate of a setup
pub data SetupCase (E : Edition) (size count nodes pile : ℕ) : Type 0 where
  count_bad : BadCount E count → setup_gate E size count nodes pile ≡ 1 → SetupCase E size count nodes pile
  too_large : TooLarge E size count → setup_gate E size count nodes pile ≡ 10 → SetupCase E size count nodes pile
  table_short : size ≤ E.greatest → TooShort E count nodes pile → setup_gate E size count nodes pile ≡ 2 → SetupCase E size count nodes pile
  accepted : size ≤ E.greatest → Room E count nodes pile → setup_gate E size count nodes pile ≡ 0 → SetupCase E size count nodes pile

-- of a size that the edition has, it is the gate of a call, but that a bad count is 1
pub sizes_pass : (E : Edition) (size count nodes pile : ℕ) → size ≤ E.greatest → setup_gate E size count nodes pile ≡ gate E 1 count nodes pile
unfolding gate setup_gate
sizes_pass E size count nodes pile h = rw (le-ltb E.greatest size h) refl

pub setup_case : (E : Edition) (size count nodes pile : ℕ) → SetupCase E size count nodes pile
setup_case E size count nodes pile = by_size (below? E.greatest size)
  where
    by_size : Below E.greatest size → SetupCase E size count nodes pile
    by_size (beyond h e) = elim (gated? E 1 count nodes pile) [
      | bad_count b g ↦ count_bad b (sizes_pass E size count nodes pile h ∙ g)
      | too_short b g ↦ table_short h b (sizes_pass E size count nodes pile h ∙ g)
      | open_gate b g ↦ accepted h b (sizes_pass E size count nodes pile h ∙ g)
    ]
    by_size (below h e) = by_count (below? count 2) (below? E.limit count)
      where
        by_count : Below count 2 → Below E.limit count → SetupCase E size count nodes pile
        by_count (below a f) b = count_bad (inl a) (unfold setup_gate in rw f)
        by_count (beyond a f) (below b g) = count_bad (inr b) (unfold setup_gate in rw (f, g))
        by_count (beyond a f) (beyond b g) = too_large ((a, b), h) (unfold setup_gate in rw (f, g, e))

pub setup_has_room : (E : Edition) (size count nodes pile : ℕ) → setup_gate E size count nodes pile ≡ 0 → Room E count nodes pile
setup_has_room E size count nodes pile z = elim (setup_case E size count nodes pile) [
  | count_bad h e ↦ absurd (omega (arith, z, e))
  | too_large h e ↦ absurd (omega (arith, z, e))
  | table_short f h e ↦ absurd (omega (arith, z, e))
  | accepted f h e ↦ h
]

-- ---- behind a gate, whatever is lent: open, the outcome is what lies behind; shut, it is the gate's number and what was lent as it came
pub gated_open : {Lent : Type 0} (g : ℕ) (w : Lent) (o : Answer × Lent) → g ≡ 0 → gated g w o ≡ o
unfolding gated
gated_open zero w o e = refl
gated_open (suc g) w o e = absurd (omega arith)

pub gated_shut : {Lent : Type 0} (g k : ℕ) (w : Lent) (o : Answer × Lent) → 1 ≤ k → g ≡ k → gated g w o ≡ (refused k, w)
unfolding gated
gated_shut zero k w o h e = absurd (omega arith)
gated_shut (suc g) k w o h e = λ i. (refused (e i), w)

-- every call stands behind the same gate: shut out by it
pub call_shut : (E : Edition) (c : Call) (w : Words) {k : ℕ} → 1 ≤ k → gate_of E w ≡ k → (refused k, w) ≡ answer_words E c w
unfolding answer_words
call_shut E c w {k} h e = sym (gated_shut (gate_of E w) k w (behind E c w) h e)

-- or let in
pub let_in : (E : Edition) (c : Call) (w : Words) {o : Answer × Words} → gate_of E w ≡ 0 → o ≡ behind E c w → o ≡ answer_words E c w
unfolding answer_words
let_in E c w g e = e ∙ sym (gated_open (gate_of E w) w (behind E c w) g)

-- as it is where there is room
pub call_open : (E : Edition) (c : Call) (w : Words) → Room E w.count (length w.nodes) (length w.pile) → answer_words E c w ≡ behind E c w
call_open E c w room = sym (let_in E c w (room_opens_gate E w room) refl)

-- a setup stands behind its own
module _ (E : Edition) (size count : ℕ) (lent : Lent) where
  abbrev its_gate : ℕ
  its_gate = setup_gate E size count (length lent.nodes) (length lent.pile)

  abbrev started : Answer × Words
  started = (done, fresh E size count lent.nodes lent.pile)

  pub setup_shut : {k : ℕ} → 1 ≤ k → its_gate ≡ k → (refused k, zeros lent) ≡ setup_words E size count lent
  unfolding setup_words
  setup_shut {k} h e = sym (gated_shut its_gate k (zeros lent) started h e)

  pub setup_let_in : {o : Answer × Words} → its_gate ≡ 0 → o ≡ started → o ≡ setup_words E size count lent
  unfolding setup_words
  setup_let_in g e = e ∙ sym (gated_open its_gate (zeros lent) started g)
