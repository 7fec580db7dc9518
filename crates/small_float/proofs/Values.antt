-- The values of classes: by mantissa and exponent, and that they increase. Assumes nothing.
use mathlib.Core.Path.{◌≡◌, refl, ap, ap₂, ◌∙◌}
use Prim.Native.Nat.{ℕ, zero, suc, ◌+◌, ◌-◌, ◌*◌, ◌/◌, ◌%◌, ◌^◌, ◌≤◌, ◌<◌, min}
use native.Mathlib.Omega.{arith}
use mathlib.Core.Logic.{◌↔◌}
use lib.Pow.{pow_pos, shl_exact}
use Rattle.basics.proofs.Decided.{Same, same, differ, same?, Below, below, beyond, below?}
use Rattle.small_float.specs.Class.{value}

pub value_small : (c : ℕ) → c < 8 → value c ≡ c
unfolding value
value_small c h = elim (below? c 8) [ below p e ↦ rw e | beyond p e ↦ absurd (omega arith) ]

pub value_large : (c : ℕ) → 8 ≤ c → value c ≡ (8 + c % 8) * 2 ^ (c / 8 - 1)
unfolding value
value_large c h = elim (below? c 8) [ below p e ↦ absurd (omega arith) | beyond p e ↦ rw e ]

-- fewer than 16 steps, shifted by their grain in so many bits, lose none of them
pub shifted_whole : (bits count g c : ℕ) → count * 2 ^ g ≡ value c → count < 16 → g + 4 ≤ bits → (count * 2 ^ g) % 2 ^ bits ≡ value c
shifted_whole bits count g c e few h = shl_exact {a = count} 4 g bits (omega arith) (omega arith) ∙ e

-- m steps of 2 ^ g; with m = 16 this is the first class of the next exponent
pub value_at : (g m : ℕ) → 8 ≤ m → m ≤ 16 → value (8 * g + m) ≡ m * 2 ^ g
value_at g m low high = value_large (8 * g + m) (omega arith) ∙ go (same? m 16)
  where
    go : Same m 16 → (8 + (8 * g + m) % 8) * 2 ^ ((8 * g + m) / 8 - 1) ≡ m * 2 ^ g
    go (same p e) =
        let q : (8 * g + m) / 8 - 1 ≡ suc g = omega arith in
        let r : (8 * g + m) % 8 ≡ 0 = omega arith in
        rw (q, r, p) (omega arith)
    go (differ p e) =
        let q : (8 * g + m) / 8 - 1 ≡ g = omega arith in
        let r : 8 + (8 * g + m) % 8 ≡ m = omega arith in
        ap₂ (λ x y. x * 2 ^ y) r q

value_step : (c : ℕ) → value c < value (suc c)
value_step c = go (below? c 8) (same? c 7)
  where
    go : Below c 8 → Same c 7 → value c < value (suc c)
    go (below h e) (same p q) =
        rw p (omega (arith, value_small 7 (omega arith), value_at 0 8 (omega arith) (omega arith)))
    go (below h e) (differ p q) = omega (arith, value_small c h, value_small (suc c) (omega arith))
    go (beyond h e) s =
        let g = c / 8 - 1 in
        let m = 8 + c % 8 in
        let here : c ≡ 8 * g + m = omega arith in
        let next : suc c ≡ 8 * g + suc m = omega arith in
        omega (
          arith,
          ap value here ∙ value_at g m (omega arith) (omega arith),
          ap value next ∙ value_at g (suc m) (omega arith) (omega arith),
          pow_pos g,
        )

pub value_lt : (c d : ℕ) → c < d → value c < value d
value_lt c zero h = absurd (omega arith)
value_lt c (suc d) h = go (same? c d) (value_lt c d)
  where
    go : Same c d → (c < d → value c < value d) → value c < value (suc d)
    go (same p e) k = rw p (value_step d)
    go (differ p e) k = omega (arith, k (omega arith), value_step d)

pub value_le : (c d : ℕ) → c ≤ d → value c ≤ value d
value_le c d h = go (same? c d)
  where
    go : Same c d → value c ≤ value d
    go (same p e) = omega (arith, ap value p)
    go (differ p e) = omega (arith, value_lt c d (omega arith))

pub value_239 : value 239 ≡ 4026531840
unfolding value
value_239 = refl

pub value_240 : value 240 ≡ 2 ^ 32
unfolding value
value_240 = refl

pub value_496 : value 496 ≡ 2 ^ 64
unfolding value
value_496 = refl

-- 64 bits hold the value of a class below 496, and of no other
pub held_in_64 : (c : ℕ) → c < 496 → min (value c) (2 ^ 64 - 1) ≡ value c
held_in_64 c h = omega (arith, value_lt c 496 h, value_496)

pub beyond_64 : (c : ℕ) → 496 ≤ c → min (value c) (2 ^ 64 - 1) ≡ 2 ^ 64 - 1
beyond_64 c h = omega (arith, value_le 496 c h, value_496)

-- a class is below another exactly if its value is
pub value_below : (c d limit : ℕ) → value d ≡ limit → (c < d) ↔ (value c < limit)
value_below c d limit e = (λ h. omega (arith, e, value_lt c d h), λ h. go (below? c d) h)
  where
    go : Below c d → value c < limit → c < d
    go (below p q) h = p
    go (beyond p q) h = absurd (omega (arith, e, value_le d c p))
