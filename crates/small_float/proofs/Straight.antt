-- Both roundings as one sum for every size, with no case for those below 8, and the grain as the machine counts it: the code's form. Assumes nothing.
use mathlib.Core.Path.{◌≡◌}
use Prim.Native.Nat.{ℕ, zero, suc, ◌+◌, ◌-◌, ◌*◌, ◌/◌, ◌%◌, ◌^◌, ◌≤◌, ◌<◌}
use native.Mathlib.Nat.{div-add-mod', mod-lt, le-div_iff_mul-le, div-lt_iff_lt-mul}
use native.Mathlib.Omega.{arith}
use lib.Pow.{pow_pos}
use lib.Bits.{bit_or, and_le_l, and_le_r, or_add_and, or_lt}
use lib.Count.{count_leading_zeros}
use Rattle.basics.proofs.Decided.{Below, below, beyond, below?}
use Rattle.small_float.specs.Class.{highest_bit, grain, down, one_if_any, up}
use Rattle.small_float.proofs.Parts.{highest_bit_lem, highest_bit_large, highest_bit_counted, between}
use Rattle.small_float.proofs.Parts.{steps_few, down_steps, up_steps, down_small, up_small}

-- ---- the grain
-- a size below 8 has none
small_bit : (s : ℕ) → s < 8 → highest_bit s ≤ 2
unfolding highest_bit
small_bit zero h = omega arith
small_bit (suc s) h = between (suc s) (highest_bit (suc s)) 2 (highest_bit_lem (suc s) (omega arith)).0 h

small_grain : (s : ℕ) → s < 8 → grain s ≡ 0
unfolding grain
small_grain s h = omega (arith, small_bit s h)

-- setting bit 3 moves the highest set bit of no size from 8 on, and makes it 3 below
bit_3_is_in : (s : ℕ) → 8 ≤ bit_or s 8
bit_3_is_in s = omega (arith, or_add_and s 8, and_le_l s 8)

size_is_in : (s : ℕ) → s ≤ bit_or s 8
size_is_in s = omega (arith, or_add_and s 8, and_le_r s 8)

with_bit_3 : (s : ℕ) → highest_bit (bit_or s 8) ≡ grain s + 3
unfolding grain
with_bit_3 s = go (below? s 8)
  where
    at_least : 3 ≤ highest_bit (bit_or s 8)
    at_least = highest_bit_large (bit_or s 8) (bit_3_is_in s)

    top : (2 ^ highest_bit (bit_or s 8) ≤ bit_or s 8) × (bit_or s 8 < 2 ^ suc (highest_bit (bit_or s 8)))
    top = highest_bit_lem (bit_or s 8) (omega (arith, bit_3_is_in s))

    at_most : (k : ℕ) → s < 2 ^ suc k → 8 < 2 ^ suc k → highest_bit (bit_or s 8) ≤ k
    at_most k p q = between (bit_or s 8) (highest_bit (bit_or s 8)) k top.0 (or_lt (suc k) s 8 p q)

    go : Below s 8 → highest_bit (bit_or s 8) ≡ highest_bit s - 3 + 3
    go (below h e) = omega (arith, at_least, at_most 3 (omega arith) (omega arith), small_bit s h)
    go (beyond h e) =
        let own = highest_bit_lem s (omega arith) in
        let no_lower = between (bit_or s 8) (highest_bit s) (highest_bit (bit_or s 8)) (omega (arith, own.0, size_is_in s)) top.1 in
        omega (arith, no_lower, at_most (highest_bit s) own.1 (omega (arith, own.1)), highest_bit_large s h)

pub grain_counted : (s : ℕ) → s < 2 ^ 32 → count_leading_zeros 32 (bit_or s 8) + grain s ≡ 28
grain_counted s h =
    let counted = highest_bit_counted (bit_or s 8) (omega (arith, bit_3_is_in s)) (or_lt 32 s 8 h (omega arith)) in
    omega (arith, counted, with_bit_3 s)

-- ---- the sums
-- a quotient rounded up: one more where anything is left over
rounded_up_lem : (s d : ℕ) → 0 < d → (s + d - 1) / d ≡ s / d + one_if_any (s % d)
unfolding one_if_any
rounded_up_lem s d p = go (s % d) (mod-lt s p) (div-add-mod' s d)
  where
    is : (q : ℕ) → q * d ≤ s + d - 1 → s + d - 1 < suc q * d → (s + d - 1) / d ≡ q
    is q low high = omega (arith, (le-div_iff_mul-le p).1 low, (div-lt_iff_lt-mul p).1 high)

    go : (rest : ℕ) → rest < d → s / d * d + rest ≡ s → (s + d - 1) / d ≡ s / d + one_if_any rest
    go zero h e = is (s / d + 0) (omega arith) (omega arith)
    go (suc rest) h e = is (s / d + 1) (omega arith) (omega arith)

pub record Straight (s g : ℕ) : Type 0 where
  pub down_is : down s ≡ 8 * g + s / 2 ^ g
  pub up_is : up s ≡ 8 * g + (s + 2 ^ g - 1) / 2 ^ g

straight_grain : (s : ℕ) → Straight s (grain s)
straight_grain s = go (below? s 8)
  where
    go : Below s 8 → Straight s (grain s)
    go (below h e) = rw (small_grain s h) (record { down_is = omega (arith, down_small s h); up_is = omega (arith, up_small s h) })
    go (beyond h e) = record {
      down_is = down_steps s h;
      up_is = omega (arith, up_steps s h, rounded_up_lem s (2 ^ grain s) (pow_pos (grain s)));
    }

pub straight : (s g : ℕ) → g ≡ grain s → Straight s g
straight s g e = rw e (straight_grain s)

-- a size and a step more hold few steps
fewer_than_16 : (s : ℕ) → s < 16 * 2 ^ grain s
fewer_than_16 s = go (below? s 8)
  where
    go : Below s 8 → s < 16 * 2 ^ grain s
    go (below h e) = rw (small_grain s h) (omega arith)
    go (beyond h e) = (div-lt_iff_lt-mul (pow_pos (grain s))).0 (steps_few s h)

pub few_steps : (s g raised : ℕ) → g ≡ grain s → raised ≤ s + 2 ^ g → raised / 2 ^ g < 17
few_steps s g raised e h =
    let fewer : s < 16 * 2 ^ g = rw e (fewer_than_16 s) in
    (div-lt_iff_lt-mul (pow_pos g)).1 (omega arith)

-- the whole: both roundings by the leading zeros, for every size of 32 bits
pub straight_counted : (s : ℕ) → s < 2 ^ 32 → Straight s (28 - count_leading_zeros 32 (bit_or s 8))
straight_counted s h = straight s (28 - count_leading_zeros 32 (bit_or s 8)) (omega (arith, grain_counted s h))
