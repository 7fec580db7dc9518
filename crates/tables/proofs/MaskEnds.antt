-- The lowest set bit of a mask from a place on, and its highest, as the machine's counts of zeros find them. Assumes nothing.
use mathlib.Core.Bool.{cond}
use mathlib.Core.Path.{◌≡◌, refl, ap, sym, ◌∙◌, subst}
use Prim.Native.Nat.{ℕ, zero, suc, ◌+◌, ◌*◌, ◌-◌, ◌/◌, ◌%◌, ◌^◌, ◌≤◌, ◌<◌}
use native.Mathlib.Nat.{div-one, div-eq_of_lt, pow-suc}
use native.Mathlib.Omega.{arith}
use lib.Dec.{eqb}
use lib.Pow.{pow_pos, pow_mono, shr-shr}
use lib.Count.{count_leading_zeros, count_trailing_zeros, under, leading_top}
use borrow.Author.Tests.{eq-eqb}
use Rattle.basics.proofs.Decided.{Same, same, differ, same?, below, beyond, below?}
use Rattle.tables.specs.Search.{low_from, high_bit}
use Rattle.tables.specs.Linked.{mask}
use Rattle.tables.proofs.Masks.{Bit, mask_same, mask_below, mask_none}

-- ---- the lowest
-- t is the least place from j on, below k, where a bit is set; it is `none` where there is no such place
pub data LowestSet (none k : ℕ) (bit : ℕ → ℕ) (j t : ℕ) : Type 0 where
  none_set : t ≡ none → ((i : ℕ) → j ≤ i → i < k → bit i ≡ 0) → LowestSet none k bit j t
  set_at : t < k → j ≤ t → bit t ≡ 1 → ((i : ℕ) → j ≤ i → i < t → bit i ≡ 0) → LowestSet none k bit j t

-- of all the bits of a mask that is not 0, counted in n bits
pub record Lowest (k : ℕ) (bit : ℕ → ℕ) (t : ℕ) : Type 0 where
  pub low : t < k
  pub is_set : bit t ≡ 1
  pub none_lower : (i : ℕ) → i < t → bit i ≡ 0

pub lowest_bit : (n k : ℕ) (f : ℕ → ℕ) → k ≤ n → Bit f → 1 ≤ mask k f → Lowest k f (count_trailing_zeros n (mask k f))
unfolding count_trailing_zeros mask
lowest_bit n zero f l b h = absurd (omega arith)
lowest_bit zero (suc k) f l b h = absurd (omega arith)
lowest_bit (suc n) (suc k) f l b h = rw (half, odd) (go (f 0) refl (lowest_bit n k (λ i. f (suc i)) (omega arith) (λ i. b (suc i))))
  where
    rest : ℕ
    rest = mask k (λ i. f (suc i))

    half : (rest * 2 + f 0) / 2 ≡ rest
    half = omega (arith, b 0)

    odd : (rest * 2 + f 0) % 2 ≡ f 0
    odd = omega (arith, b 0)

    t : ℕ
    t = count_trailing_zeros n rest

    lower : f 0 ≡ 0 → ((i : ℕ) → i < t → f (suc i) ≡ 0) → (i : ℕ) → i < suc t → f i ≡ 0
    lower e m zero g = e
    lower e m (suc i) g = m i (omega arith)

    go : (d : ℕ) → f 0 ≡ d → (1 ≤ rest → Lowest k (λ i. f (suc i)) t) → Lowest (suc k) f (under d t)
    go zero e further =
        let r = further (omega (arith, h)) in
        record { low = omega (arith, r.low); is_set = r.is_set; none_lower = lower e r.none_lower }
    go (suc d) e further = record { low = omega arith; is_set = omega (arith, b 0); none_lower = λ i g. absurd (omega arith) }

-- the mask without its j lowest bits
mask_shift : (k j : ℕ) (f : ℕ → ℕ) → j ≤ k → Bit f → mask k f / 2 ^ j ≡ mask (k - j) (λ i. f (j + i))
mask_shift k zero f l b =
    let all : k ≡ k - 0 = omega arith in
    let here : (i : ℕ) → i ≡ 0 + i = λ i. omega arith in
    div-one (mask k f) ∙ ap (λ (n : ℕ). mask n f) all ∙ mask_same (k - 0) f (λ i. f (0 + i)) (λ i _. ap f (here i))
mask_shift zero (suc j) f l b = absurd (omega arith)
mask_shift (suc k) (suc j) f l b =
    halved ∙ mask_shift k j (λ i. f (suc i)) (omega arith) (λ i. b (suc i)) ∙ ap (λ (n : ℕ). mask n (λ i. f (suc (j + i)))) less
    ∙ mask_same (suc k - suc j) (λ i. f (suc (j + i))) (λ i. f (suc j + i)) (λ i _. ap f (moved i))
  where
    less : k - j ≡ suc k - suc j
    less = omega arith

    moved : (i : ℕ) → suc (j + i) ≡ suc j + i
    moved i = omega arith

    one_more : 1 + j ≡ suc j
    one_more = omega arith

    half : mask (suc k) f / 2 ^ 1 ≡ mask k (λ i. f (suc i))
    half = let two : 2 ^ 1 ≡ 2 = refl in unfold mask in omega (arith, b 0)

    halved : mask (suc k) f / 2 ^ suc j ≡ mask k (λ i. f (suc i)) / 2 ^ j
    halved =
        ap (λ (n : ℕ). mask (suc k) f / 2 ^ n) (sym one_more) ∙ sym (shr-shr (mask (suc k) f) 1 j) ∙ ap (λ (m : ℕ). m / 2 ^ j) half

pub lowest_from_lem : (k j : ℕ) (f : ℕ → ℕ) → j ≤ k → k ≤ 32 → Bit f → LowestSet 32 k f j (low_from (mask k f) j)
unfolding low_from
lowest_from_lem k j f l most b = rw (mask_shift k j f l b) (go (same? (mask (k - j) g) 0))
  where
    g : ℕ → ℕ
    g i = f (j + i)

    back : (i : ℕ) → j ≤ i → j + (i - j) ≡ i
    back i h = omega arith

    go : Same (mask (k - j) g) 0 → LowestSet 32 k f j (cond (eqb (mask (k - j) g) 0) 32 (j + count_trailing_zeros 32 (mask (k - j) g)))
    go (same z e) = rw e (none_set refl (λ i h m. rw (← (back i h)) (mask_none (k - j) g z (i - j) (omega arith))))
    go (differ z e) =
        let r = lowest_bit 32 (k - j) g (omega arith) (λ i. b (j + i)) (omega arith) in
        rw e (set_at (omega (arith, r.low)) (omega arith) r.is_set (λ i h m. rw (← (back i h)) (r.none_lower (i - j) (omega arith))))

-- past the end of a number there is nothing
pub low_past : (m j : ℕ) → m < 2 ^ j → low_from m j ≡ 32
unfolding low_from
low_past m j h = rw (eq-eqb (m / 2 ^ j) 0 (div-eq_of_lt h))

-- ---- the highest
pub record Highest (k : ℕ) (bit : ℕ → ℕ) (t : ℕ) : Type 0 where
  pub low : t < k
  pub is_set : bit t ≡ 1
  pub none_higher : (i : ℕ) → t < i → i < k → bit i ≡ 0

-- the bit by whose weight the mask is bounded
mask_top : (k j : ℕ) (f : ℕ → ℕ) → Bit f → 2 ^ j ≤ mask k f → mask k f < 2 ^ suc j
    → (f j ≡ 1) × ((i : ℕ) → j < i → i < k → f i ≡ 0)
unfolding mask
mask_top zero j f b l h = absurd (omega (arith, pow_pos j))
mask_top (suc k) zero f b l h = (omega (arith, b 0), higher)
  where
    higher : (i : ℕ) → 0 < i → i < suc k → f i ≡ 0
    higher zero g m = absurd (omega arith)
    higher (suc i) g m = mask_none k (λ i. f (suc i)) (omega arith) i (omega arith)
mask_top (suc k) (suc j) f b l h =
    let r = mask_top k j (λ i. f (suc i)) (λ i. b (suc i)) (omega (arith, b 0)) (omega (arith, b 0)) in
    (r.0, higher r.1)
  where
    higher : ((i : ℕ) → j < i → i < k → f (suc i) ≡ 0) → (i : ℕ) → suc j < i → i < suc k → f i ≡ 0
    higher r zero g m = absurd (omega arith)
    higher r (suc i) g m = r i (omega arith) (omega arith)

pub highest_bit_lem : (k : ℕ) (f : ℕ → ℕ) → k ≤ 32 → Bit f → 1 ≤ mask k f → Highest k f (high_bit (mask k f))
unfolding high_bit
highest_bit_lem k f l b h =
    let top = leading_top 32 (mask k f) h (omega (arith, mask_below k f b, pow_mono {i = k} {j = 32} l)) in
    let bounded = mask_top k top.0 f b top.2 top.3 in
    let counted : top.0 ≡ 31 - count_leading_zeros 32 (mask k f) = omega (arith, top.1) in
    let low : top.0 < k = elim (below? top.0 k) [
      | below g e ↦ g
      | beyond g e ↦ absurd (omega (arith, top.2, mask_below k f b, pow_mono {i = k} {j = top.0} g))
    ] in
    subst (Highest k f) counted record { low = low; is_set = bounded.0; none_higher = bounded.1 }

-- ---- a number below 2 ^ j that is not 0 has fewer than j trailing zeros, however many bits are counted
half_below : (n x : ℕ) → n < x * 2 → n / 2 < x
half_below n x h = omega arith

pub trailing_below : (j k n : ℕ) → j ≤ k → 1 ≤ n → n < 2 ^ j → count_trailing_zeros k n < j
unfolding count_trailing_zeros
trailing_below zero k n h one small = absurd (omega arith)
trailing_below (suc j) zero n h one small = absurd (omega arith)
trailing_below (suc j) (suc k) n h one small = go (n % 2) refl (trailing_below j k (n / 2) (omega arith))
  where
    go : (d : ℕ) → n % 2 ≡ d → (1 ≤ n / 2 → n / 2 < 2 ^ j → count_trailing_zeros k (n / 2) < j) → under d (count_trailing_zeros k (n / 2)) < suc j
    go zero e later = omega (arith, later (omega arith) (half_below n (2 ^ j) (subst (λ (x : ℕ). n < x) (pow-suc 2 j) small)))
    go (suc d) e later = omega arith
