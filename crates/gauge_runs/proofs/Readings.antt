-- A reading is refused and leaves the gauge, or moves it by a fill of at most 256, on any words. Assumes nothing.
use mathlib.Core.Path.{◌≡◌, refl, ap, ◌∙◌}
use mathlib.Core.Logic.{inl, inr}
use mathlib.Core.List.{[], ◌∷◌}
use Prim.Native.Nat.{ℕ, ◌-◌, ◌≤◌, ◌<◌}
use native.Mathlib.Omega.{arith}
use lib.ListN.{length}
use borrow.Author.Tests.{lt-ltb, le-ltb}
use Rattle.basics.proofs.Decided.{Below, below, beyond, below?}
use Rattle.ledger.specs.Ledger.{Answer, reported, refused}
use Rattle.ledger.specs.Fill.{fill_of}
use Rattle.ledger.specs.Calls.{Fill, Ask}
use Rattle.ledger.proofs.Fills.{fill_most}
use Rattle.tables.specs.Words.{Words, Edition}
use Rattle.tables.specs.Questions.{told_by, fill_of_words}
use Rattle.tables.specs.Calls.{answer_words, behind}
use Rattle.tables.specs.Room.{Room}
use Rattle.tables.specs.Claims.{OneOf}
use Rattle.tables.proofs.Gate.{Gated, bad_count, too_short, open_gate, gated?, call_open}
use Rattle.tables.proofs.Claims as tables
use Rattle.gauge.specs.Rule.{Watch, net_change, watch_after}
use Rattle.gauge.specs.Answers.{Told, read, not_read, read_after}
use Rattle.gauge.specs.Promise.{ReadPromise}

-- what the words tell
pub data FillCase (E : Edition) (w : Words) : Type 0 where
  untold : (k : ℕ) → OneOf (6 ∷ 2 ∷ []) k → (answer_words E (Ask Fill) w).0 ≡ refused k → FillCase E w
  filled : (units fill : ℕ) → fill ≤ 256 → (answer_words E (Ask Fill) w).0 ≡ reported units fill → FillCase E w

module _ (E : Edition) (w : Words) where
  -- behind the gate
  opened : Room E w.count (length w.nodes) (length w.pile) → (answer_words E (Ask Fill) w).0 ≡ fill_of_words w
  opened room = unfold behind told_by in ap (λ (x : Answer × Words). x.0) (call_open E (Ask Fill) w room)

  pub too_much_free : Room E w.count (length w.nodes) (length w.pile) → w.size < w.free_storage
      → (answer_words E (Ask Fill) w).0 ≡ refused 6
  unfolding fill_of_words
  too_much_free room h = opened room ∙ rw (lt-ltb w.size w.free_storage h) refl

  pub no_more_free : Room E w.count (length w.nodes) (length w.pile) → w.free_storage ≤ w.size
      → (answer_words E (Ask Fill) w).0 ≡ reported (w.size - w.free_storage) (fill_of (w.size - w.free_storage) w.size)
  unfolding fill_of_words
  no_more_free room h = opened room ∙ rw (le-ltb w.size w.free_storage h) refl

  pub fill_case : FillCase E w
  fill_case = go (gated? E 6 w.count (length w.nodes) (length w.pile)) (below? w.size w.free_storage)
    where
      go : Gated E 6 w.count (length w.nodes) (length w.pile) → Below w.size w.free_storage → FillCase E w
      go (bad_count b e) s = untold 6 (inl refl) (ap (λ (x : Answer × Words). x.0) ((tables.claims E).call_6 (Ask Fill) w b))
      go (too_short b e) s = untold 2 (inr (inl refl)) (ap (λ (x : Answer × Words). x.0) ((tables.claims E).call_2 (Ask Fill) w b))
      go (open_gate room e) (below l q) = untold 6 (inl refl) (too_much_free room l)
      go (open_gate room e) (beyond l q) =
          let units = w.size - w.free_storage in
          filled units (fill_of units w.size) (fill_most units w.size (omega arith)) (no_more_free room l)

-- what a reading tells and leaves
pub data ReadCase (g : Watch) (t : Told) (f : Watch) : Type 0 where
  kept : (k : ℕ) → OneOf (6 ∷ 2 ∷ []) k → t ≡ not_read k → f ≡ g → ReadCase g t f
  moved : (units fill : ℕ) → fill ≤ 256
      → t ≡ read fill (watch_after g units fill).level (watch_after g units fill).peak (net_change g.last units)
      → f ≡ watch_after g units fill → ReadCase g t f

module _ (E : Edition) {w : Words} {g f : Watch} {t : Told} (p : ReadPromise E w g t f) where
  pub read_case : ReadCase g t f
  unfolding read_after
  read_case = elim (fill_case E w) [
    | untold k number e ↦ let is = p.exact ∙ ap (read_after g) e in kept k number (ap (λ (x : Told × Watch). x.0) is) (ap (λ (x : Told × Watch). x.1) is)
    | filled units fill most e ↦
        let is = p.exact ∙ ap (read_after g) e in moved units fill most (ap (λ (x : Told × Watch). x.0) is) (ap (λ (x : Told × Watch). x.1) is)
  ]
