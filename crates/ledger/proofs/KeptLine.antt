-- Cut, merge and setup keep line and pile in order, whatever the stacks hold. Assumes nothing.
use Rattle.ledger.specs.Ledger.{Engine, Ledger, cut, beside, merge, setup, Region, live, free, len}
use mathlib.Core.Path.{◌≡◌, refl, ap}
use Prim.Native.Nat.{ℕ, zero, suc, ◌+◌, ◌-◌, ◌≤◌}
use native.Mathlib.Omega.{arith}
use mathlib.Core.List.{List, [], ◌∷◌, ◌++◌}
use lib.ListN.{length, get_or, length-append, length-drop, length-reverse_aux}
use lib.Dec.{ltb}
use Rattle.basics.specs.Sum.{one, is, tally}
use Rattle.basics.proofs.Sums.{tally_append, tally_reverse_aux, tally_first, below_suc, below_zero}
use Rattle.ledger.specs.WellFormed.{has, Lined}
use Rattle.ledger.proofs.Numbers.{tally_numbers_from, length_numbers_from}
use Rattle.ledger.proofs.Places.{Between, sum_at}
use Rattle.ledger.proofs.Apart.{apart_sides, apart_joined, apart_rest}

-- ---- the two sides of a region handed back: what a side loses to it
module _ (E : Engine) where
  pub side_len : (side : List Region) (x : E.Index) → tally len side ≡ tally len (beside E side x).rest + (beside E side x).added
  unfolding beside
  side_len [] x = refl
  side_len (live n r ∷ rest) x = omega arith
  side_len (free n r ∷ rest) x = omega arith

  pub side_has : (r : ℕ) (side : List Region) (x : E.Index)
      → tally (has r) side ≡ tally (has r) (beside E side x).rest + tally (is r) (beside E side x).owed
  unfolding beside
  side_has r [] x = refl
  side_has r (live n q ∷ rest) x = omega arith
  side_has r (free n q ∷ rest) x = omega arith

  -- ---- the ledger
  module _ (size count : ℕ) where
    pub cut_lined : (s k : ℕ) {before after : List Region} {n r : ℕ} (l : Ledger E.Index) → Between before (free n r) after l.line
        → s + k ≡ n → 2 ≤ length l.pile → Lined size count l.line l.pile
        → Lined size count (cut E s k before n r after l).line (cut E s k before n r after l).pile
    unfolding cut
    cut_lined s zero {before} {after} {n} {r} l b e two w =
        let sides = apart_sides before (free n r) after (rw b.line_is at w.apart) in
        record {
          cover = omega (arith, tally_reverse_aux len before (live s r ∷ after), sum_at b len, w.cover);
          apart = apart_joined before (live s r) after (tt, sides.0.1) (tt, sides.1.1);
          once = λ i. omega (arith, tally_reverse_aux (has i) before (live s r ∷ after), sum_at b (has i), w.once i);
          spare = w.spare;
          some_region = omega (arith, length-reverse_aux before (live s r ∷ after));
        }
    cut_lined s (suc k) {before} {after} {n} {r} l b e two w =
        let next = get_or l.pile 0 0 in
        let sides = apart_sides before (free n r) after (rw b.line_is at w.apart) in
        record {
          cover = omega (arith, tally_reverse_aux len before (live s r ∷ free (suc k) next ∷ after), sum_at b len, w.cover);
          apart = apart_joined before (live s r) (free (suc k) next ∷ after) (tt, sides.0.1) (tt, sides.1);
          once = λ i. omega (
            arith,
            tally_reverse_aux (has i) before (live s r ∷ free (suc k) next ∷ after),
            sum_at b (has i),
            tally_first (is i) l.pile 0 (omega arith),
            w.once i,
          );
          spare = omega (arith, length-drop 1 l.pile);
          some_region = omega (arith, length-reverse_aux before (live s r ∷ free (suc k) next ∷ after));
        }

    pub merge_lined : {before after : List Region} {n r : ℕ} (l : Ledger E.Index) → Between before (live n r) after l.line
        → Lined size count l.line l.pile
        → Lined size count (merge E before n r after l).line (merge E before n r after l).pile
    unfolding merge
    merge_lined {before} {after} {n} {r} l b w =
        let b_side = beside E before l.index in
        let a_side = beside E after b_side.index in
        let whole = b_side.added + n + a_side.added in
        let sides = apart_sides before (live n r) after (rw b.line_is at w.apart) in
        record {
          cover = omega (
            arith,
            tally_reverse_aux len b_side.rest (free whole r ∷ a_side.rest),
            sum_at b len,
            side_len before l.index,
            side_len after b_side.index,
            w.cover,
          );
          apart = apart_joined b_side.rest (free whole r) a_side.rest
              (apart_rest E l.index whole r before sides.0.1) (apart_rest E b_side.index whole r after sides.1.1);
          once = λ i. omega (
            arith,
            tally_reverse_aux (has i) b_side.rest (free whole r ∷ a_side.rest),
            sum_at b (has i),
            side_has i before l.index,
            side_has i after b_side.index,
            tally_append (is i) a_side.owed (b_side.owed ++ l.pile),
            tally_append (is i) b_side.owed l.pile,
            w.once i,
          );
          spare = omega (arith, w.spare, length-append a_side.owed (b_side.owed ++ l.pile), length-append b_side.owed l.pile);
          some_region = omega (arith, length-reverse_aux b_side.rest (free whole r ∷ a_side.rest));
        }

    pub setup_lined : 2 ≤ count → Lined size count (setup E size count).line (setup E size count).pile
    unfolding setup
    setup_lined h =
        let one_more : 1 + (count - 1) ≡ count = omega arith in
        record {
          cover = omega arith;
          apart = (tt, tt);
          once = λ i. omega (
            arith,
            tally_numbers_from i (count - 1) 1,
            below_suc i 0,
            below_zero i,
            ap (λ x. one (ltb i x)) one_more,
          );
          spare = omega (arith, length_numbers_from (count - 1) 1);
          some_region = omega arith;
        }
