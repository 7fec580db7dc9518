-- The peak that a reading leaves is one of two values, and no less than either: where neither is -0, infinite or no number. Assumes nothing.
use mathlib.Core.Path.{◌≡◌, refl, subst}
use mathlib.Core.Logic.{◌≢◌}
use mathlib.Core.Bool.{Bool, true, false, cond}
use Prim.Native.Nat.{ℕ, ◌*◌, ◌≤◌, zero-le}
use native.Mathlib.Nat.{le_refl, le_trans, zero-lt-suc}
use native.Mathlib.Omega.{arith}
use lib.Dec.{T}
use borrow.Author.Tests.{ltb-false}
use lib.Ieee as ieee
use lib.Ieee.{Float, nan, inf, fin, binary32, fits, up, down}
use lib.Ieee.Fits.{down_pos, cond-fits}
use lib.Ieee.Order.{le_of_values}
use Rattle.gauge.specs.Rule.{nought, peak_after}
use Rattle.gauge.specs.Claims.{minus_nought, whole}
use Rattle.gauge.proofs.AtMost.{AtMost}
use Rattle.gauge.proofs.Equal.{whole_value}

-- ---- what a bound says in the rule's own comparisons
pub not_minus_lem : (x : Float) (a c : ℕ) → AtMost x a c → x ≢ minus_nought
not_minus_lem x a c h e = subst (λ (z : Float). AtMost z a c) e h

pub from_nought : (x : Float) (a c : ℕ) → AtMost x a c → T (ieee.le nought x)
from_nought nan a c h = absurd h
from_nought (inf s) a c h = absurd h
from_nought (fin true m e) a c h = absurd h
from_nought (fin false m e) a c h =
    le_of_values nought (fin false m e) 0 1 (m * up e) (down e) (zero-lt-suc 0) (down_pos e) (refl, refl) (refl, refl) (le_trans (none (down e)) zero-le)
  where
    none : (x : ℕ) → 0 * x ≤ 0
    none x = omega arith

pub to_whole : (x : Float) (n : ℕ) → n ≤ 256 → AtMost x n 1 → T (ieee.le x (whole n))
to_whole nan n l h = absurd h
to_whole (inf s) n l h = absurd h
to_whole (fin true m e) n l h = absurd h
to_whole (fin false m e) n l h = le_of_values (fin false m e) (whole n) (m * up e) (down e) n 1 (down_pos e) (zero-lt-suc 0) (refl, refl) (whole_value n l) h

-- ---- the greater of two
less_is_le : (x y : Float) → ieee.lt x y ≡ true → T (ieee.le x y)
unfolding ieee.le
less_is_le x y e = rw e tt

-- what is not below it is at least it
not_less : (x y : Float) (a c b d : ℕ) → AtMost x a c → AtMost y b d → ieee.lt x y ≡ false → T (ieee.le y x)
unfolding ieee.lt
not_less nan y a c b d p q e = absurd p
not_less (inf s) y a c b d p q e = absurd p
not_less (fin true m f) y a c b d p q e = absurd p
not_less (fin false m f) nan a c b d p q e = absurd q
not_less (fin false m f) (inf t) a c b d p q e = absurd q
not_less (fin false m f) (fin true n g) a c b d p q e = absurd q
not_less (fin false m f) (fin false n g) a c b d p q e =
    le_of_values (fin false n g) (fin false m f) (n * up g) (down g) (m * up f) (down f) (down_pos g) (down_pos f) (refl, refl) (refl, refl)
    (ltb-false (m * up f * down g) (n * up g * down f) e)

itself : (x : Float) (a c : ℕ) → AtMost x a c → T (ieee.le x x)
itself nan a c h = absurd h
itself (inf s) a c h = absurd h
itself (fin true m e) a c h = absurd h
itself (fin false m e) a c h =
    let x : Float = fin false m e in
    le_of_values x x (m * up e) (down e) (m * up e) (down e) (down_pos e) (down_pos e) (refl, refl) (refl, refl) (le_refl (m * up e * down e))

-- the peak that was, and the level, are at most the peak that is
pub record Greater (peak level now : Float) : Type 0 where
  pub than_peak : T (ieee.le peak now)
  pub than_level : T (ieee.le level now)

pub greater : (peak level : Float) (a c : ℕ) → AtMost peak a c → AtMost level a c → Greater peak level (peak_after peak level)
unfolding peak_after
greater peak level a c p l = go (ieee.lt peak level) refl
  where
    go : (t : Bool) → ieee.lt peak level ≡ t → Greater peak level (cond t level peak)
    go true e = record { than_peak = less_is_le peak level e; than_level = itself level a c l }
    go false e = record { than_peak = itself peak a c p; than_level = not_less peak level a c a c p l e }

-- ---- it is one of the two
pub peak_fits : (peak level : Float) → T (fits binary32 peak) → T (fits binary32 level) → T (fits binary32 (peak_after peak level))
unfolding peak_after
peak_fits peak level p l = cond-fits binary32 (ieee.lt peak level) level peak l p

pub peak_kept : (peak level : Float) (a c : ℕ) → AtMost peak a c → AtMost level a c → AtMost (peak_after peak level) a c
unfolding peak_after
peak_kept peak level a c p l = go (ieee.lt peak level)
  where
    go : (t : Bool) → AtMost (cond t level peak) a c
    go true = l
    go false = p
