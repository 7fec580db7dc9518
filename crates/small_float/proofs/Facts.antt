-- Document 01's facts on size classes hold, and document 02's on sizes without one. Assumes nothing.
use mathlib.Core.Path.{◌≡◌, ap, subst, ◌∙◌}
use Prim.Native.Nat.{ℕ, ◌-◌, ◌*◌, ◌^◌, ◌≤◌, ◌<◌}
use native.Mathlib.Omega.{arith}
use mathlib.Core.Logic.{◌↔◌}
use mathlib.Core.Option.{none, some}
use Rattle.basics.specs.Extreme.{Least}
use Rattle.basics.proofs.Clash.{clash}
use Rattle.small_float.specs.Class.{down, up, value, classes_in_use, greatest_served, rounded_up, Reaches}
use Rattle.small_float.specs.Facts.{Serves, ClassFacts}
use Rattle.small_float.proofs.Values.{value_lt, value_le, value_below, value_239, value_240, value_496}
use Rattle.small_float.proofs.Rounding.{down_value, down_largest, down_most, up_value, up_smallest, up_near}
use Rattle.small_float.proofs.Rounding.{up_served, up_unserved, reaches, fits, to_class, to_none, rounded?, reaches_number}

down_reaches : (s c : ℕ) → (c ≤ down s) ↔ (value c ≤ s)
down_reaches s c = (λ h. omega (arith, value_le c (down s) h, down_value s), λ h. down_largest s c h)

-- ---- what a size is rounded up to
no_class : (s : ℕ) → (rounded_up s ≡ none) ↔ (greatest_served < s)
no_class s = elim (rounded? s) [
  | to_class low in_use e ↦ (λ n. clash (cc), λ h. absurd (omega arith))
  | to_none high past e ↦ (λ n. high, λ h. e)
]

a_class : (s c : ℕ) → (rounded_up s ≡ some c) ↔ ((s ≤ greatest_served) × (up s ≡ c))
a_class s c = elim (rounded? s) [
  | to_class low in_use e ↦ (λ k. let same : up s ≡ c = cc in (low, same), λ h. e ∙ ap some h.1)
  | to_none high past e ↦ (λ k. clash (cc), λ h. absurd (omega (arith, h.0)))
]

-- a fact on the class that a size is rounded up to, from the same on its number
on_number : (P : ℕ → ℕ → Type 0) → ((s : ℕ) → s ≤ greatest_served → P s (up s)) → (s c : ℕ) → rounded_up s ≡ some c → P s c
on_number P h s c e = let its = (a_class s c).0 e in subst (P s) its.1 (h s its.0)

fits_rounded : (s n : ℕ) → Reaches (down n) (rounded_up s) → s ≤ n
fits_rounded s n h = elim (rounded? s) [
  | to_class low in_use e ↦ fits s n (rw e at h)
  | to_none high past e ↦ absurd (rw e at h)
]

serves_exactly : (n s c : ℕ) → rounded_up s ≡ some c → Serves n s ↔ (value c ≤ n)
serves_exactly n s c e = rw e (down_reaches n c)

smallest : (s c : ℕ) → rounded_up s ≡ some c → Least (λ n. Serves n s) (value c)
smallest s c e = ((serves_exactly (value c) s c e).1 (omega arith), λ n h. (serves_exactly n s c e).0 h)

reaches_value : (s c : ℕ) → c < classes_in_use → Reaches c (rounded_up s) ↔ (s ≤ value c)
reaches_value s c h = (λ k. (reaches s c).0 ((reaches_number s c h).0 k), λ k. (reaches_number s c h).1 ((reaches s c).1 k))

pub class_facts : ClassFacts
class_facts = record {
  down_most = down_most;
  down_greatest = λ s. (down_value s, λ c h. down_largest s c h);
  down_reaches = down_reaches;
  no_region_has_it = λ s n h k. omega (arith, up_unserved s h, down_most n k);
  no_class = no_class;
  a_class = a_class;
  up_most = on_number (λ s c. c ≤ 239) up_served;
  up_least = on_number (λ s c. Least (λ d. s ≤ value d) c) (λ s h. (up_value s, λ c k. up_smallest s c k));
  up_near = on_number (λ s c. 8 ≤ s → 8 * (value c - s) < s) (λ s h k. omega (arith, up_near s k, up_value s));
  fits = fits_rounded;
  reaches = reaches_value;
  reaches_class = λ c wanted. (λ h. h, λ h. h);
  reaches_none = λ c h. h;
  smallest = smallest;
  serves_exactly = serves_exactly;
  smallest_fits = on_number (λ s c. value c < 2 ^ 32) (λ s h. omega (arith, value_le (up s) 239 (up_served s h), value_239));
  none_serves = λ s n e h. rw e at h;
  value_increases = value_lt;
  in_32_bits = λ c. value_below c 240 (2 ^ 32) value_240;
  in_64_bits = λ c.
      let held = value_below c 496 (2 ^ 64) value_496 in
      (λ h. held.0 (omega arith), λ h. omega (arith, held.1 h));
  in_order = λ c d h. omega (arith, value_le c d h);
}
