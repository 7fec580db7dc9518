-- What rounding down and rounding up give: the class just below a size and the class just above it. Assumes nothing.
use mathlib.Core.Path.{◌≡◌, refl, ap, ◌∙◌}
use Prim.Native.Nat.{ℕ, zero, suc, ◌+◌, ◌*◌, ◌^◌, ◌≤◌, ◌<◌}
use native.Mathlib.Nat.{mul-le-mul_right}
use native.Mathlib.Omega.{arith}
use mathlib.Core.Logic.{◌↔◌}
use mathlib.Core.Option.{none, some}
use borrow.Author.Tests.{lt-ltb, le-ltb}
use Rattle.basics.proofs.Decided.{Below, below, beyond, below?}
use Rattle.small_float.specs.Class.{down, one_if_any, up, value, classes_in_use, greatest_served, rounded_up, Reaches}
use Rattle.small_float.proofs.Parts.{Parts, parts, down_small, up_small}
use Rattle.small_float.proofs.Values.{value_small, value_at, value_lt, value_le, value_239, value_240}

-- ---- down: its value is at most the size, and the next class's is not
pub down_value : (s : ℕ) → value (down s) ≤ s
down_value s = go (below? s 8)
  where
    go : Below s 8 → value (down s) ≤ s
    go (below h e) = rw (down_small s h) (omega (arith, value_small s h))
    go (beyond h e) =
        let w = parts s h in
        omega (arith, ap value w.down_is ∙ value_at w.g w.m w.m_low (omega (arith, w.m_high)), w.sum)

down_next : (s : ℕ) → s < value (suc (down s))
down_next s = go (below? s 8)
  where
    go : Below s 8 → s < value (suc (down s))
    go (below h e) = rw (down_small s h) (omega (arith, value_small s h, value_lt s (suc s) (omega arith)))
    go (beyond h e) =
        let w = parts s h in
        let next : suc (down s) ≡ 8 * w.g + suc w.m = omega (arith, w.down_is) in
        omega (
          arith,
          ap value next ∙ value_at w.g (suc w.m) (omega (arith, w.m_low)) w.m_high,
          w.sum,
          w.rest_small,
        )

pub down_largest : (s c : ℕ) → value c ≤ s → c ≤ down s
down_largest s c h = elim (below? (down s) c) [
  | below p e ↦ absurd (omega (arith, down_next s, value_le (suc (down s)) c p))
  | beyond p e ↦ p
]

-- ---- up: its value is at least the size, and no lower class's is; from 8 on it exceeds the size by less than an eighth
record Above (s : ℕ) : Type 0 where
  reaches_it : s ≤ value (up s)
  lower_not : (c : ℕ) → c < up s → value c < s
  near : 8 ≤ s → 8 * value (up s) < 9 * s

-- the rest is 0, or the size lies between two classes
above_parts : (s : ℕ) (w : Parts s) (rest : ℕ) → rest ≡ w.rest → Above s
unfolding one_if_any
above_parts s w zero z =
    let u : up s ≡ 8 * w.g + w.m = omega (arith, w.up_is, ap one_if_any z) in
    let v : value (up s) ≡ w.m * 2 ^ w.g =
    ap value u ∙ value_at w.g w.m w.m_low (omega (arith, w.m_high)) in
    record {
      reaches_it = omega (arith, w.sum);
      lower_not = λ c h. omega (arith, value_lt c (up s) h, w.sum);
      near = λ h. omega (arith, w.sum);
    }
above_parts s w (suc rest) z =
    let u : up s ≡ 8 * w.g + suc w.m = omega (arith, w.up_is, ap one_if_any z) in
    let v : value (up s) ≡ suc w.m * 2 ^ w.g =
    ap value u ∙ value_at w.g (suc w.m) (omega (arith, w.m_low)) w.m_high in
    let x : value (8 * w.g + w.m) ≡ w.m * 2 ^ w.g =
    value_at w.g w.m w.m_low (omega (arith, w.m_high)) in
    record {
      reaches_it = omega (arith, w.sum, w.rest_small);
      lower_not = λ c h. omega (arith, value_le c (8 * w.g + w.m) (omega arith), w.sum);
      near = λ h. omega (arith, w.sum, w.rest_small, mul-le-mul_right (2 ^ w.g) w.m_low);
    }

above : (s : ℕ) → Above s
above s = go (below? s 8)
  where
    go : Below s 8 → Above s
    go (below h e) = record {
      reaches_it = omega (arith, ap value (up_small s h) ∙ value_small s h);
      lower_not = λ c k. omega (arith, up_small s h, value_small c (omega (arith, up_small s h)));
      near = λ k. absurd (omega arith);
    }
    go (beyond h e) = let w = parts s h in above_parts s w w.rest refl

pub up_value : (s : ℕ) → s ≤ value (up s)
up_value s = (above s).reaches_it

pub up_smallest : (s c : ℕ) → s ≤ value c → up s ≤ c
up_smallest s c h = elim (below? c (up s)) [
  | below p e ↦ absurd (omega (arith, (above s).lower_not c p))
  | beyond p e ↦ p
]

pub up_near : (s : ℕ) → 8 ≤ s → 8 * value (up s) < 9 * s
up_near s h = (above s).near h

-- ---- the two together
-- a class reaches up(s) exactly if its value reaches s
pub reaches : (s c : ℕ) → (up s ≤ c) ↔ (s ≤ value c)
reaches s c = (λ h. omega (arith, up_value s, value_le (up s) c h), up_smallest s c)

-- a region whose class reaches up(s) is long enough
pub fits : (s n : ℕ) → up s ≤ down n → s ≤ n
fits s n h = omega (arith, up_value s, value_le (up s) (down n) h, down_value n)

-- ---- in 32 bits
pub down_most : (s : ℕ) → s < 2 ^ 32 → down s ≤ 239
down_most s h = elim (below? (down s) 240) [
  | below p e ↦ omega arith
  | beyond p e ↦ absurd (omega (arith, value_le 240 (down s) p, down_value s, value_240))
]

-- up to 4,026,531,840 the class rounded up is one that a region can have, and above it is not
pub up_served : (s : ℕ) → s ≤ greatest_served → up s ≤ 239
up_served s h = up_smallest s 239 (omega (arith, value_239))

pub up_unserved : (s : ℕ) → greatest_served < s → 240 ≤ up s
up_unserved s h = elim (below? (up s) 240) [
  | below p e ↦ absurd (omega (arith, up_value s, value_le (up s) 239 (omega arith), value_239))
  | beyond p e ↦ p
]

-- ---- what a size is rounded up to: a class that a region can have, or none
pub rounded_to_none : (s : ℕ) → greatest_served < s → rounded_up s ≡ none
unfolding rounded_up
rounded_to_none s h = rw (lt-ltb greatest_served s h)

pub rounded_to_class : (s : ℕ) → s ≤ greatest_served → rounded_up s ≡ some (up s)
unfolding rounded_up
rounded_to_class s h = rw (le-ltb greatest_served s h)

pub data Rounded (s : ℕ) : Type 0 where
  to_class : s ≤ greatest_served → up s < classes_in_use → rounded_up s ≡ some (up s) → Rounded s
  to_none : greatest_served < s → classes_in_use ≤ up s → rounded_up s ≡ none → Rounded s

pub rounded? : (s : ℕ) → Rounded s
rounded? s = elim (below? greatest_served s) [
  | below h e ↦ to_none h (up_unserved s h) (rounded_to_none s h)
  | beyond h e ↦ to_class h (omega (arith, up_served s h)) (rounded_to_class s h)
]

-- a class that a region can have reaches it exactly if it reaches the number
pub reaches_number : (s c : ℕ) → c < classes_in_use → Reaches c (rounded_up s) ↔ (up s ≤ c)
reaches_number s c h = elim (rounded? s) [
  | to_class low in_use e ↦ rw e (λ k. k, λ k. k)
  | to_none high past e ↦ rw e (λ k. absurd k, λ k. absurd (omega arith))
]
