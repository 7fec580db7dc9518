-- The lowest set bit from a place on: there is none, or it is one of the number's bits. Assumes nothing.
use mathlib.Core.Path.{◌≡◌, subst}
use mathlib.Core.Bool.{true, false}
use Prim.Native.Nat.{ℕ, ◌+◌, ◌-◌, ◌/◌, ◌^◌, ◌≤◌, ◌<◌}
use native.Mathlib.Omega.{arith}
use lib.Dec.{eqb}
use lib.Pow.{shr_lt}
use borrow.Author.Tests.{eqb-false}
use Rattle.tables.specs.Search.{low_from}
use Rattle.tables.proofs.MaskEnds.{trailing_below}

pub low_none : (m i : ℕ) → eqb (m / 2 ^ i) 0 ≡ true → low_from m i ≡ 32
unfolding low_from
low_none m i none = rw none

-- of a number of b bits
pub low_below : (b m i : ℕ) → b ≤ 32 → i ≤ b → m < 2 ^ b → eqb (m / 2 ^ i) 0 ≡ false → low_from m i < b
unfolding low_from
low_below b m i narrow below small some =
    let width : b ≡ (b - i) + i = omega arith in
    let rest : m / 2 ^ i < 2 ^ (b - i) = shr_lt (b - i) i (subst (λ (k : ℕ). m < 2 ^ k) width small) in
    let low = trailing_below (b - i) 32 (m / 2 ^ i) (omega arith) (omega (arith, eqb-false (m / 2 ^ i) 0 some)) rest in
    rw some (omega (arith, low))
