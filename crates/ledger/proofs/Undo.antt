-- A hand-back straight after a grant undoes it: line, stacks and pile are what they were. Assumes nothing.
use Rattle.ledger.specs.Ledger.{Engine, Ledger, Region, live, free, len, granted, done}
use Rattle.ledger.specs.Ledger.{cut, beside, merge, take, hand_back, give_back}
use Rattle.ledger.specs.Laws.{Laws}
use mathlib.Core.Path.{◌≡◌, refl, sym}
use Prim.Native.Nat.{ℕ, zero, suc, ◌+◌, ◌-◌, ◌≤◌}
use native.Mathlib.Omega.{arith}
use mathlib.Core.List.{List, [], ◌∷◌}
use lib.ListN.{length, get_or, drop}
use lib.Seq.{drop-cons}
use Rattle.basics.specs.Sum.{tally}
use Rattle.basics.proofs.Clash.{clash}
use Rattle.basics.proofs.Decided.{eqb_same}
use Rattle.ledger.specs.Calls.{span_of, hands_back}
use Rattle.ledger.specs.WellFormed.{WellFormed, has, Abut}
use Rattle.ledger.proofs.Places.{Between}
use Rattle.ledger.proofs.Find.{find_there}
use Rattle.ledger.proofs.Apart.{apart_sides}
use Rattle.ledger.proofs.Cases.{Serving, TakeCase, few_spares, no_region, serves, take_case}

module _ (E : Engine) (laws : Laws E) where
  -- a side that begins with no free region adds nothing to a merge
  abbrev Shut : List Region → Type 0
  Shut side = (x : E.Index) → beside E side x ≡ record { added = 0; owed = []; rest = side; index = x }

  -- beside a free region no free region stands
  shut : (n r : ℕ) (side : List Region) → Abut (free n r) side → Shut side
  unfolding beside
  shut n r [] h x = refl
  shut n r (live m q ∷ rest) h x = refl
  shut n r (free m q ∷ rest) h x = absurd h

  undo_cut : (s k : ℕ) {before after : List Region} {n r : ℕ} (l : Ledger E.Index) → Between before (free n r) after l.line
      → s + k ≡ n → 2 ≤ length l.pile → Shut before → Shut after → tally (has r) before ≡ 0 → E.enter n r (E.leave n r l.index) ≡ l.index
      → hand_back E (tally len before) r (cut E s k before n r after l) ≡ (done, l)
  unfolding hand_back give_back cut merge
  undo_cut s zero {before} {after} {n} {r} l b e two hb ha z back =
      let whole : 0 + s + 0 ≡ n = omega arith in
      let fewer = E.leave n r l.index in
      rw (
        find_there r before (live s r) after refl z,
        eqb_same (tally len before),
        hb fewer,
        ha fewer,
        whole,
        back,
      ) (λ i. (done, record { line = sym b.line_is i; index = l.index; pile = l.pile }))
  undo_cut s (suc k) {before} {after} {n} {r} l b e two hb ha z back =
      let whole : 0 + s + suc k ≡ n = omega arith in
      let fewer = E.leave n r l.index in
      let next = get_or l.pile 0 0 in
      let pile_is : next ∷ drop 1 l.pile ≡ l.pile = sym (drop-cons l.pile 0 0 (omega arith)) in
      rw (
        find_there r before (live s r) (free (suc k) next ∷ after) refl z,
        eqb_same (tally len before),
        hb (E.enter (suc k) next fewer),
        whole,
        laws.leaves_again (suc k) next fewer,
        back,
      ) (λ i. (done, record { line = sym b.line_is i; index = l.index; pile = pile_is i }))

  module _ (size count : ℕ) where
    pub undo : (s o r : ℕ) (l : Ledger E.Index) → WellFormed E size count l → (take E s l).0 ≡ granted o r
        → hands_back E (span_of o r) (take E s l).1 ≡ (done, l)
    undo s o r l w g = go (take_case E laws w s)
      where
        of_serving : (t : Serving E s l) → hand_back E (tally len t.before) t.r (cut E s (t.n - s) t.before t.n t.r t.after l) ≡ (done, l)
        of_serving t =
            let sides = apart_sides t.before (free t.n t.r) t.after (rw t.place.line_is at w.lined.apart) in
            undo_cut s (t.n - s) l t.place (omega (arith, t.long_enough)) t.two_spare
            (shut t.n t.r t.before sides.0.0) (shut t.n t.r t.after sides.1.0) t.first_there t.goes_back

        go : TakeCase E s l → hand_back E o r (take E s l).1 ≡ (done, l)
        go (few_spares h e) = clash (cc)
        go (no_region h empty e) = clash (cc)
        go (serves t) =
            let place : o ≡ tally len t.before = cc t.outcome in
            let number : r ≡ t.r = cc t.outcome in
            rw (place, number, t.outcome) (of_serving t)
