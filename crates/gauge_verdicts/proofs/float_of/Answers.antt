-- A pattern is a not-a-number's exactly if it is above the infinity's, but for the sign. Assumes nothing.
use Prim.Native.Nat.{ℕ, ◌<◌, ◌≤◌, ◌%◌}
use mathlib.Core.Path.{◌≡◌, refl, sym, subst, ◌∙◌}
use mathlib.Core.Bool.{true, not}
use lib.Dec.{T}
use lib.Ieee.{Float, nan, inf, fin, is_nan, nan_bits, of_bits, div, binary32}
use lib.Ieee.Bits.{nan_bits_is, nan_bits_above}
use borrow.Author.Tests.{lt-ltb, le-ltb}
use Rattle.gauge_verdicts.proofs.float_of.Goals as goal

only_nan : (x : Float) → is_nan x ≡ true → x ≡ nan
unfolding is_nan
only_nan nan e = refl
only_nan (inf s) e = absurd (subst T (sym e) tt)
only_nan (fin s m k) e = absurd (subst T (sym e) tt)

above : (n : ℕ) → 2139095040 < n % 2147483648 → of_bits binary32 n ≡ nan
above n h = only_nan (of_bits binary32 n) (sym (nan_bits_is binary32 n) ∙ nan_bits_above binary32 n ∙ lt-ltb 2139095040 (n % 2147483648) h)

below : (n : ℕ) → n % 2147483648 ≤ 2139095040 → T (not (nan_bits binary32 n))
below n h = subst (λ b. T (not b)) (sym (nan_bits_above binary32 n ∙ le-ltb 2139095040 (n % 2147483648) h)) tt

pub returns-then-bits-gt-INFINITE : goal.returns-then-bits-gt-INFINITE
unfolding div of_bits
returns-then-bits-gt-INFINITE c = sym (above _ c.if-bits-gt-INFINITE.true)

pub float_from_bits-result : goal.float_from_bits-result
float_from_bits-result c = below _ c.if-bits-gt-INFINITE.false
