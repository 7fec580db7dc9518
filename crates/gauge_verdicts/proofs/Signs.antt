-- Numbers of 32 bits as signed ones of 64. Assumes nothing.
use Prim.Native.Nat.{ℕ, zero, suc, ◌-◌, ◌^◌, ◌<◌}
use mathlib.Core.Path.{◌≡◌, refl, sym, ap, subst, ◌∙◌}
use mathlib.Core.Bool.{Bool, true, false, cond}
use lib.Dec.{T, ltb}
use borrow.Author.Tests.{lt-ltb}
use native.Mathlib.Omega.{arith}
use lib.IntN.{ℤ, pos, negsuc, ◌-ℤ◌}
use mir.Syntax.{w64}
use mir.Val.{SFits}

taken : (b : Bool) (x y : ℤ) → b ≡ true → x ≡ cond b x y
taken true x y e = refl
taken false x y e = absurd (subst T (sym e) tt)

above : (n : ℕ) → 0 < suc n
above n = omega arith

one_less : (n : ℕ) → n ≡ suc n - 1
one_less n = omega arith

negative : (n : ℕ) → negsuc n ≡ pos 0 -ℤ pos (suc n)
negative n = ap negsuc (one_less n) ∙ taken (ltb 0 (suc n)) (negsuc (suc n - 1)) _ (lt-ltb 0 (suc n) (above n))

small : (n : ℕ) → suc n < 2 ^ 63 → SFits w64 (negsuc n)
small n h = record { sfits = omega arith }

-- what is left of 0 without such a number fits 64 bits with its sign
pub below_fits : (n : ℕ) → n < 2 ^ 63 → SFits w64 (pos 0 -ℤ pos n)
below_fits zero h = record { sfits = omega arith }
below_fits (suc n) h = subst (SFits w64) (negative n) (small n h)
