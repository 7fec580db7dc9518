-- A quotient by 2 ^ g rounded up, as the code works it out in signed numbers of 64 bits: what is before the size, rounded down, and 1 more.
-- Assumes nothing.
use mathlib.Core.Path.{◌≡◌, refl, sym, ap, ◌∙◌}
use Prim.Native.Nat.{ℕ, zero, suc, ◌+◌, ◌-◌, ◌*◌, ◌/◌, ◌^◌, ◌≤◌, ◌<◌}
use native.Mathlib.Nat.{zero-div, div-le_self, div-eq_of_lt, add-div_right}
use native.Mathlib.Omega.{arith}
use lib.Pow.{pow_pos}
use lib.Dec.{T}
use lib.IntN.{ℤ, pos, negsuc, ◌+ℤ◌, ◌-ℤ◌, nat_abs}
use lib.Signed.{shr_z, non_neg}
use mir.Syntax.{w32, w64}
use mir.Val.{to_z, of_z, Fits, SFits}
use mir.Facts.{to_z_pos, to_z-of_z}
use borrow.Author.Tests.{le-ltb}
use borrow.Author.Rules.{sfits_of}
use Rattle.small_float.specs.Class.{grain, up}
use Rattle.small_float.proofs.Straight.{straight, few_steps}

-- The size less k, and the steps of 2 ^ g that this holds and one more, as the machine has them. The code has 1 for k; over k, so that all but the
-- last lemma hold of a wrong one too, and a wrong one is refused there.
abbrev pub before : ℕ → ℕ → ℤ
before s k = to_z w64 s -ℤ pos k

abbrev pub steps : ℕ → ℕ → ℕ → ℤ
steps s k g = to_z w64 (of_z w64 (shr_z (to_z w64 (of_z w64 (before s k))) (2 ^ g))) +ℤ pos 1

record Ceiling (s k g : ℕ) : Type 0 where
  before_holds : SFits w64 (before s k)
  steps_hold : SFits w64 (steps s k g)
  are : steps s k g ≡ pos ((s + 2 ^ g - k) / 2 ^ g)

-- of a number from 0 on they are its quotient and one more, of -1 they are none
from_zero : (n g : ℕ) → n < 2 ^ 32 → to_z w64 (of_z w64 (shr_z (to_z w64 (of_z w64 (pos n))) (2 ^ g))) +ℤ pos 1 ≡ pos (n / 2 ^ g + 1)
from_zero n g h =
    let quotient : n / 2 ^ g < 2 ^ 63 = omega (arith, div-le_self n (2 ^ g)) in
    rw (to_z_pos w64 {n = n} (omega arith), to_z_pos w64 {n = n / 2 ^ g} quotient) refl

before_zero : (g : ℕ) → to_z w64 (of_z w64 (shr_z (negsuc 0) (2 ^ g))) +ℤ pos 1 ≡ pos 0
before_zero g = rw (zero-div (2 ^ g)) refl

minus_one : (n : ℕ) → n < 2 ^ 32 → before (suc n) 1 ≡ pos n
minus_one n h = rw (to_z_pos w64 {n = suc n} (omega arith), le-ltb (suc n) 1 (omega arith)) (ap pos (omega arith))

minus_none : (n : ℕ) → n < 2 ^ 32 → before n 0 ≡ pos n
minus_none n h = rw (to_z_pos w64 {n = n} (omega arith)) (ap pos (omega arith))

-- a step more is one more
one_more : (n raised g : ℕ) → raised ≡ n + 2 ^ g → n / 2 ^ g + 1 ≡ raised / 2 ^ g
one_more n raised g e = rw e (omega (arith, add-div_right n (pow_pos g)))

ceiling : (s k g : ℕ) → s < 2 ^ 32 → k ≤ 1 → Ceiling s k g
ceiling s zero g h p = record {
  before_holds = rw (minus_none s h) (sfits_of (omega arith));
  steps_hold = rw (minus_none s h, from_zero s g h) (sfits_of (omega (arith, div-le_self s (2 ^ g))));
  are = rw (minus_none s h, from_zero s g h) (ap pos (one_more s _ g (omega arith)));
}
ceiling zero (suc zero) g h p = record {
  before_holds = sfits_of (omega arith);
  steps_hold = rw (before_zero g) (sfits_of (omega arith));
  are = rw (before_zero g) (ap pos (sym (div-eq_of_lt (omega (arith, pow_pos g)))));
}
ceiling (suc n) (suc zero) g h p = record {
  before_holds = rw (minus_one n (omega arith)) (sfits_of (omega arith));
  steps_hold = rw (minus_one n (omega arith), from_zero n g (omega arith)) (sfits_of (omega (arith, div-le_self n (2 ^ g))));
  are = rw (minus_one n (omega arith), from_zero n g (omega arith)) (ap pos (one_more n _ g (omega arith)));
}
ceiling s (suc (suc k)) g h p = absurd (omega arith)

-- what is asked where they are worked out and used, each for a size less 1 and for the size itself
pub before_fits : (s k : ℕ) → s < 2 ^ 32 → k ≤ 1 → SFits w64 (before s k)
before_fits s k h p = (ceiling s k 0 h p).before_holds

pub steps_fit : (s k g : ℕ) → s < 2 ^ 32 → k ≤ 1 → SFits w64 (steps s k g)
steps_fit s k g h p = (ceiling s k g h p).steps_hold

steps_read : (s k g : ℕ) → s < 2 ^ 32 → k ≤ 1 → to_z w64 (of_z w64 (steps s k g)) ≡ pos ((s + 2 ^ g - k) / 2 ^ g)
steps_read s k g h p = let c = ceiling s k g h p in to_z-of_z c.steps_hold ∙ c.are

-- there are no fewer than none, and their number fits 32 bits, and so does the class
pub not_negative : (s k g : ℕ) → s < 2 ^ 32 → k ≤ 1 → T (non_neg (to_z w64 (of_z w64 (steps s k g))))
not_negative s k g h p = rw (steps_read s k g h p) tt

pub count_fits : (s k g : ℕ) → g ≡ grain s → s < 2 ^ 32 → k ≤ 1 → Fits w32 (nat_abs (to_z w64 (of_z w64 (steps s k g))))
count_fits s k g e h p = rw (steps_read s k g h p) (record { fits = omega (arith, few_steps s g (s + 2 ^ g - k) e (omega arith)) })

pub class_fits : (s k g : ℕ) → g ≡ grain s → g ≤ 28 → s < 2 ^ 32 → k ≤ 1
    → Fits w32 (8 * g + nat_abs (to_z w64 (of_z w64 (steps s k g))))
class_fits s k g e q h p =
    rw (steps_read s k g h p) (record { fits = omega (arith, few_steps s g (s + 2 ^ g - k) e (omega arith)) })

-- with 1 it is the class rounded up
pub class_is_up : (s g : ℕ) → g ≡ grain s → s < 2 ^ 32 → 8 * g + nat_abs (to_z w64 (of_z w64 (steps s 1 g))) ≡ up s
class_is_up s g e h = rw (steps_read s 1 g h (omega arith)) (sym (straight s g e).up_is)
