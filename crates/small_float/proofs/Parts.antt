-- A size of 8 or more in parts: m steps of 2 ^ g, with m from 8 to 15, and a rest. Assumes nothing.
use mathlib.Core.Path.{◌≡◌, ap, ◌∙◌}
use Prim.Native.Nat.{ℕ, zero, suc, ◌+◌, ◌-◌, ◌*◌, ◌/◌, ◌%◌, ◌^◌, ◌≤◌, ◌<◌}
use native.Mathlib.Nat.{div-add-mod', mod-lt, le-div_iff_mul-le, div-lt_iff_lt-mul}
use native.Mathlib.Omega.{arith}
use lib.Pow.{pow_pos, pow_mono}
use lib.Count.{count_leading_zeros, leading_top}
use Rattle.basics.proofs.Decided.{below, beyond, below?}
use Rattle.small_float.specs.Class.{halvings, highest_bit, grain, down, one_if_any, up}

-- ---- the highest set bit
doubled : (h n : ℕ) → 2 ^ h ≤ n / 2 → n / 2 < 2 ^ suc h → (2 ^ suc h ≤ n) × (n < 2 ^ suc (suc h))
doubled h n p q = omega arith

halvings_between : (depth s : ℕ) → s ≤ depth → 1 ≤ s → (2 ^ halvings depth s ≤ s) × (s < 2 ^ suc (halvings depth s))
unfolding halvings
halvings_between zero s h p = absurd (omega arith)
halvings_between (suc depth) zero h p = absurd (omega arith)
halvings_between (suc depth) (suc zero) h p = omega arith
halvings_between (suc depth) (suc (suc s)) h p =
    let i = halvings_between depth (suc (suc s) / 2) (omega arith) (omega arith) in
    doubled (halvings depth (suc (suc s) / 2)) (suc (suc s)) i.0 i.1

-- the highest set bit h of a number that is not 0 is the h with 2 ^ h ≤ s < 2 ^ (h + 1)
pub highest_bit_lem : (s : ℕ) → 1 ≤ s → (2 ^ highest_bit s ≤ s) × (s < 2 ^ suc (highest_bit s))
unfolding highest_bit
highest_bit_lem s p = halvings_between s s (omega arith) p

pub between : (s i j : ℕ) → 2 ^ i ≤ s → s < 2 ^ suc j → i ≤ j
between s i j p q = elim (below? j i) [ below h e ↦ absurd (omega (arith, pow_mono h)) | beyond h e ↦ h ]

-- the machine's count of leading zeros gives it
pub highest_bit_counted : (s : ℕ) → 1 ≤ s → s < 2 ^ 32 → count_leading_zeros 32 s + suc (highest_bit s) ≡ 32
highest_bit_counted s p q =
    let l = leading_top 32 s p q in
    let t = highest_bit_lem s p in
    omega (arith, l.1, between s l.0 (highest_bit s) l.2 t.1, between s (highest_bit s) l.0 t.0 l.3)

-- ---- the parts
three_bits : (s h : ℕ) → 8 ≤ s → s < 2 ^ suc h → 3 ≤ h
three_bits s zero p q = omega arith
three_bits s (suc zero) p q = omega arith
three_bits s (suc (suc zero)) p q = omega arith
three_bits s (suc (suc (suc h))) p q = omega arith

pub highest_bit_large : (s : ℕ) → 8 ≤ s → 3 ≤ highest_bit s
highest_bit_large s p = three_bits s (highest_bit s) p (highest_bit_lem s (omega arith)).1

-- between 8 and 15 steps of 2 ^ g lie below a size
eight_grains : (s : ℕ) → 8 ≤ s → 2 ^ highest_bit s ≡ 8 * 2 ^ grain s
unfolding grain
eight_grains s p = ap (λ x. 2 ^ x) (regroup (highest_bit s) (highest_bit_large s p)) ∙ pow3 (highest_bit s - 3)
  where
    regroup : (t : ℕ) → 3 ≤ t → t ≡ suc (suc (suc (t - 3)))
    regroup t q = omega arith

    pow3 : (t : ℕ) → 2 ^ suc (suc (suc t)) ≡ 8 * 2 ^ t
    pow3 t = omega arith

pub steps_many : (s : ℕ) → 8 ≤ s → 8 ≤ s / 2 ^ grain s
steps_many s p = (le-div_iff_mul-le (pow_pos (grain s))).1 (omega (arith, eight_grains s p, (highest_bit_lem s (omega arith)).0))

pub steps_few : (s : ℕ) → 8 ≤ s → s / 2 ^ grain s < 16
steps_few s p = (div-lt_iff_lt-mul (pow_pos (grain s))).1 (omega (arith, eight_grains s p, (highest_bit_lem s (omega arith)).1))

-- the remainder of those steps by 8 is what exceeds 8
pub down_steps : (s : ℕ) → 8 ≤ s → down s ≡ 8 * grain s + s / 2 ^ grain s
unfolding down
down_steps s p = elim (below? s 8) [
  | below h e ↦ absurd (omega arith)
  | beyond h e ↦ rw e (omega (arith, steps_many s p, steps_few s p))
]

pub up_steps : (s : ℕ) → 8 ≤ s → up s ≡ 8 * grain s + s / 2 ^ grain s + one_if_any (s % 2 ^ grain s)
unfolding up
up_steps s p = elim (below? s 8) [
  | below h e ↦ absurd (omega arith)
  | beyond h e ↦ rw e (omega (arith, steps_many s p, steps_few s p))
]

pub record Parts (s : ℕ) : Type 0 where
  pub g : ℕ
  pub m : ℕ
  pub rest : ℕ
  pub m_low : 8 ≤ m
  pub m_high : m < 16
  pub rest_small : rest < 2 ^ g
  pub sum : m * 2 ^ g + rest ≡ s
  pub down_is : down s ≡ 8 * g + m
  pub up_is : up s ≡ 8 * g + m + one_if_any rest

pub parts : (s : ℕ) → 8 ≤ s → Parts s
parts s p = record {
  g = grain s;
  m = s / 2 ^ grain s;
  rest = s % 2 ^ grain s;
  m_low = steps_many s p;
  m_high = steps_few s p;
  rest_small = mod-lt s (pow_pos (grain s));
  sum = div-add-mod' s (2 ^ grain s);
  down_is = down_steps s p;
  up_is = up_steps s p;
}

-- a size below 8 is its own class
pub down_small : (s : ℕ) → s < 8 → down s ≡ s
unfolding down
down_small s h = elim (below? s 8) [ below p e ↦ rw e | beyond p e ↦ absurd (omega arith) ]

pub up_small : (s : ℕ) → s < 8 → up s ≡ s
unfolding up
up_small s h = elim (below? s 8) [ below p e ↦ rw e | beyond p e ↦ absurd (omega arith) ]
