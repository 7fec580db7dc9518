-- Which words setup and reset leave as they came, whatever those held. Assumes nothing.
use mathlib.Core.Path.{◌≡◌, refl, ◌∙◌}
use mathlib.Core.Logic.{◌⊎◌, inl, inr, ◌≢◌}
use mathlib.Core.List.{List}
use Prim.Native.Nat.{ℕ, ◌+◌, ◌*◌, ◌≤◌, ◌<◌}
use native.Mathlib.Omega.{arith}
use lib.ListN.{length, get_or, replicate, length-replicate, get_or-replicate, get_or-eq_default}
use Rattle.basics.proofs.Decided.{below, beyond, below?}
use Rattle.small_float.specs.Class.{down}
use Rattle.ledger.specs.Ledger.{Answer, done}
use Rattle.ledger.specs.Calls.{Reset}
use Rattle.tables.specs.Layout.{bin_prev, used, pile_needed}
use Rattle.tables.specs.Words.{Words, Edition, bounds}
use Rattle.tables.specs.Steps.{insert_at, insert, pop_pile}
use Rattle.tables.specs.Gate.{setup_gate, gate_of}
use Rattle.tables.specs.Setup.{Lent, blank, fresh, zeros, setup_words}
use Rattle.tables.specs.Calls.{behind, answer_words}
use Rattle.tables.specs.Room.{Room}
use Rattle.tables.specs.Reach.{LeftAlone}
use Rattle.tables.proofs.Gate.{setup_has_room, gate_has_room}
use Rattle.tables.proofs.PlanEnds.{gated_ends}
use Rattle.tables.proofs.Untouched.{insert_elsewhere, insert_nodes_length, wiped_elsewhere, piled_beyond}
use Rattle.tables.proofs.Wiped.{length_wiped, length_piled}

-- ---- a word that is left alone is none of record 0's seven, and no used word
not_record_0 : (n i k : ℕ) → 2 ≤ n → LeftAlone n i → k < 7 → i ≢ 8 * 0 + k
not_record_0 n i k l (inl h) g = omega arith
not_record_0 n i k l (inr (inl h)) g = omega arith
not_record_0 n i k l (inr (inr h)) g = omega (arith, h.0)

not_used : (n i r : ℕ) → LeftAlone n i → r < n → i ≢ 8 * r + used
not_used n i r (inl h) l = omega arith
not_used n i r (inr (inl h)) l = omega arith
not_used n i r (inr (inr h)) l = omega (arith, h.1)

-- every class is empty when record 0 is put in: its old top is no record (or record 0 itself, for a size past every class)
no_top : (none c : ℕ) → (get_or (replicate 256 none) c 0 ≡ none) ⊎ (get_or (replicate 256 none) c 0 ≡ 0)
no_top none c = elim (below? c 256) [
  | below l e ↦ inl (get_or-replicate 256 c none 0 l)
  | beyond l e ↦ inr (get_or-eq_default (replicate 256 none) 0 {n = c} (omega (arith, length-replicate 256 none)))
]

module _ (E : Edition) (size count : ℕ) (nodes pile : List ℕ) where
  fresh_leaves : Room E count (length nodes) (length pile) → (i : ℕ) → LeftAlone count i
      → get_or (fresh E size count nodes pile).nodes i 0 ≡ get_or nodes i 0
  unfolding fresh pop_pile blank
  fresh_leaves room i alone =
      insert_elsewhere (bounds E w) w size 0 0 E.none E.none i
      (λ k l. not_record_0 count i k room.count_low alone l)
      (top_apart (no_top E.none (down size)))
      (λ l. absurd (omega (arith, room.count_high, E.small)))
      (λ l. absurd (omega (arith, room.count_high, E.small)))
      ∙ wiped_elsewhere count nodes i (λ r l. not_used count i r alone l)
    where
      w : Words
      w = pop_pile (blank E size count nodes pile)

      h : ℕ
      h = get_or (replicate 256 E.none) (down size) 0

      top_apart : (h ≡ E.none) ⊎ (h ≡ 0) → h < count → i ≢ 8 * h + bin_prev
      top_apart (inl e) l = absurd (omega (arith, room.count_high, E.small))
      top_apart (inr e) l = omega (arith, not_record_0 count i bin_prev room.count_low alone (omega arith))

-- ---- setup
module _ (E : Edition) (size count : ℕ) (lent : Lent) where
  setup_keeps : (f : Words → ℕ)
      → (Room E count (length lent.nodes) (length lent.pile) → f (fresh E size count lent.nodes lent.pile) ≡ f (zeros lent))
      → f (setup_words E size count lent).1 ≡ f (zeros lent)
  unfolding setup_words
  setup_keeps f h =
      gated_ends (λ (x : Answer × Words). f x.1 ≡ f (zeros lent)) (setup_gate E size count (length lent.nodes) (length lent.pile))
      (zeros lent) (done, fresh E size count lent.nodes lent.pile) (λ k. refl)
      (λ e. h (setup_has_room E size count (length lent.nodes) (length lent.pile) e))

  pub setup_leaves : (i : ℕ) → LeftAlone count i → get_or (setup_words E size count lent).1.nodes i 0 ≡ get_or lent.nodes i 0
  setup_leaves i alone = setup_keeps (λ w. get_or w.nodes i 0) (λ room. fresh_leaves E size count lent.nodes lent.pile room i alone)

  pub setup_pile_leaves : (i : ℕ) → pile_needed count ≤ i → get_or (setup_words E size count lent).1.pile i 0 ≡ get_or lent.pile i 0
  setup_pile_leaves i h = setup_keeps (λ w. get_or w.pile i 0) (λ room. fresh_pile i h)
    where
      fresh_pile : (j : ℕ) → pile_needed count ≤ j → get_or (fresh E size count lent.nodes lent.pile).pile j 0 ≡ get_or lent.pile j 0
      fresh_pile j l = unfold fresh insert insert_at pop_pile blank in piled_beyond count count lent.pile j l

  pub setup_lengths : (length (setup_words E size count lent).1.nodes ≡ length lent.nodes)
      × (length (setup_words E size count lent).1.pile ≡ length lent.pile)
  setup_lengths = (setup_keeps (λ w. length w.nodes) (λ room. fresh_nodes), setup_keeps (λ w. length w.pile) (λ room. fresh_pile))
    where
      fresh_nodes : length (fresh E size count lent.nodes lent.pile).nodes ≡ length lent.nodes
      fresh_nodes = unfold fresh pop_pile blank in
          insert_nodes_length (bounds E (pop_pile (blank E size count lent.nodes lent.pile)))
          (pop_pile (blank E size count lent.nodes lent.pile))
          size 0 0 E.none E.none ∙ length_wiped count lent.nodes

      fresh_pile : length (fresh E size count lent.nodes lent.pile).pile ≡ length lent.pile
      fresh_pile = unfold fresh insert insert_at pop_pile blank in length_piled count count lent.pile

pub reset_leaves : (E : Edition) (w : Words) (i : ℕ) → LeftAlone w.count i
    → get_or (answer_words E Reset w).1.nodes i 0 ≡ get_or w.nodes i 0
unfolding answer_words behind
reset_leaves E w i alone =
    gated_ends (λ (x : Answer × Words). get_or x.1.nodes i 0 ≡ get_or w.nodes i 0) (gate_of E w) w
    (done, fresh E w.size w.count w.nodes w.pile) (λ k. refl)
    (λ e. fresh_leaves E w.size w.count w.nodes w.pile (gate_has_room E w e) i alone)
