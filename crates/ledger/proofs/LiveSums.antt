-- A sum over the live regions of a line: a cut adds the region that becomes live, a merge takes away the one handed back. Assumes nothing.
use Rattle.ledger.specs.Ledger.{Engine, Ledger, cut, beside, merge, Region, live, free}
use mathlib.Core.Path.{◌≡◌, refl}
use Prim.Native.Nat.{ℕ, zero, suc, ◌+◌}
use native.Mathlib.Omega.{arith}
use mathlib.Core.List.{List, [], ◌∷◌}
use lib.ListN.{get_or}
use Rattle.basics.specs.Sum.{tally}
use Rattle.basics.proofs.Sums.{tally_reverse_aux}
use Rattle.ledger.proofs.Places.{Between, sum_at}

module _ (E : Engine) where
  module _ (f : Region → ℕ) (nothing-free : (n r : ℕ) → f (free n r) ≡ 0) where
    pub cut_adds : (s k : ℕ) {before after : List Region} {n r : ℕ} (l : Ledger E.Index) → Between before (free n r) after l.line
        → tally f (cut E s k before n r after l).line ≡ tally f l.line + f (live s r)
    unfolding cut
    cut_adds s zero {before} {after} {n} {r} l b =
        omega (arith, tally_reverse_aux f before (live s r ∷ after), sum_at b f, nothing-free n r)
    cut_adds s (suc k) {before} {after} {n} {r} l b =
        let remainder = free (suc k) (get_or l.pile 0 0) in
        omega (
          arith,
          tally_reverse_aux f before (live s r ∷ remainder ∷ after),
          sum_at b f,
          nothing-free n r,
          nothing-free (suc k) (get_or l.pile 0 0),
        )

    rest_same : (side : List Region) (x : E.Index) → tally f (beside E side x).rest ≡ tally f side
    unfolding beside
    rest_same [] x = refl
    rest_same (live n r ∷ rest) x = refl
    rest_same (free n r ∷ rest) x = omega (arith, nothing-free n r)

    pub merge_takes : {before after : List Region} {n r : ℕ} (l : Ledger E.Index) → Between before (live n r) after l.line
        → tally f (merge E before n r after l).line + f (live n r) ≡ tally f l.line
    unfolding merge
    merge_takes {before} {after} {n} {r} l b =
        let b_side = beside E before l.index in
        let a_side = beside E after b_side.index in
        let whole = b_side.added + n + a_side.added in
        omega (
          arith,
          tally_reverse_aux f b_side.rest (free whole r ∷ a_side.rest),
          sum_at b f,
          nothing-free whole r,
          rest_same before l.index,
          rest_same after b_side.index,
        )
