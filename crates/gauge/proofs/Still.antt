-- A level that is a fill's own number stays at that fill: one test for the 257 fills, computed. Assumes nothing.
use mathlib.Core.Path.{◌≡◌, sym, ap, ◌∙◌, subst}
use mathlib.Core.Bool.{Bool, true, ◌&&◌}
use Prim.Native.Nat.{ℕ, zero, suc, ◌≤◌, ◌<◌}
use native.Mathlib.Nat.{not-suc-le-zero}
use native.Mathlib.Omega.{arith}
use lib.Dec.{T, eqb}
use borrow.Author.Tests.{eqb-true}
use lib.IntN.{pos}
use lib.Ieee as ieee
use lib.Ieee.{Float, binary32}
use lib.Ieee.Bits.{of_bits-to_bits, is_true}
use lib.Ieee.Fits.{add-fits, of_int-fits, and_l, and_r}
use Rattle.basics.proofs.Decided.{same?, same, differ}
use Rattle.gauge.specs.Rule.{eighth, level_after}
use Rattle.gauge.specs.Claims.{whole}

-- a test of every number below k
abbrev all_below : (ℕ → Bool) → ℕ → Bool
all_below f zero = true
all_below f (suc k) = f k && all_below f k

one_of_all : (f : ℕ → Bool) (k n : ℕ) → T (all_below f k) → n < k → T (f n)
one_of_all f zero n t h = absurd (not-suc-le-zero h)
one_of_all f (suc k) n t h = elim (same? n k) [
  | same p e ↦ subst (λ (m : ℕ). T (f m)) (sym p) (and_l (f k) (all_below f k) t)
  | differ p e ↦ one_of_all f k n (and_r (f k) (all_below f k) t) (omega arith)
]

unfoldable same_bits : ℕ → Bool
unfolding level_after ieee.of_int ieee.to_bits ieee.add ieee.mul ieee.sub
same_bits n = eqb (ieee.to_bits binary32 (level_after (whole n) n)) (ieee.to_bits binary32 (whole n))

all_same : T (all_below same_bits 257)
unfolding same_bits
all_same = tt

-- values of the format with the same bits are the same value
pub still_at : (n : ℕ) → n ≤ 256 → level_after (whole n) n ≡ whole n
unfolding same_bits level_after
still_at n h =
    let now : Float = level_after (whole n) n in
    let bits : ieee.to_bits binary32 now ≡ ieee.to_bits binary32 (whole n) =
    eqb-true (ieee.to_bits binary32 now) (ieee.to_bits binary32 (whole n)) (is_true (same_bits n) (one_of_all same_bits 257 n all_same (omega arith))) in
    sym (of_bits-to_bits binary32 now (add-fits binary32 (whole n) (ieee.mul binary32 (ieee.sub binary32 (whole n) (whole n)) eighth)))
    ∙ ap (ieee.of_bits binary32) bits
    ∙ of_bits-to_bits binary32 (whole n) (of_int-fits binary32 (pos n))
