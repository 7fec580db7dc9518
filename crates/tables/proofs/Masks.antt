-- Masks of bits: when a mask is 0, and what setting or clearing one bit makes of it. Assumes nothing.
use mathlib.Core.Path.{◌≡◌, refl, ap, ap₂, ◌∙◌}
use mathlib.Core.Logic.{◌≢◌}
use mathlib.Core.List.{List, [], ◌∷◌}
use Prim.Native.Nat.{ℕ, zero, suc, ◌+◌, ◌*◌, ◌-◌, ◌/◌, ◌%◌, ◌^◌, ◌≤◌, ◌<◌, max, min}
use native.Mathlib.Nat.{suc_inj, mod-eq_of_lt}
use native.Mathlib.Omega.{arith}
use lib.ListN.{length}
use lib.Bits.{bit_or, bit_and, or_step, and_step, or_zero_r, and_mask}
use lib.Pow.{pow_pos, pow-lt}
use Rattle.tables.specs.Steps.{set_bit, clear_bit}
use Rattle.tables.specs.Linked.{mask, full, non_zero}

-- every place holds 0 or 1
abbrev pub Bit : (ℕ → ℕ) → Type 0
Bit bit = (i : ℕ) → bit i ≤ 1

-- ---- the two kinds of bits
pub full_bit : (xs : List ℕ) → full xs ≤ 1
full_bit [] = omega arith
full_bit (x ∷ xs) = omega arith

pub full_some : (xs : List ℕ) → 1 ≤ length xs → full xs ≡ 1
full_some [] h = absurd (omega arith)
full_some (x ∷ xs) h = refl

pub full_none : (xs : List ℕ) → full xs ≡ 0 → xs ≡ []
full_none [] e = refl
full_none (x ∷ xs) e = absurd (omega arith)

pub non_zero_bit : (m : ℕ) → non_zero m ≤ 1
unfolding non_zero
non_zero_bit zero = omega arith
non_zero_bit (suc m) = omega arith

pub non_zero_some : (m : ℕ) → 1 ≤ m → non_zero m ≡ 1
unfolding non_zero
non_zero_some zero h = absurd (omega arith)
non_zero_some (suc m) h = refl

pub non_zero_none : (m : ℕ) → non_zero m ≡ 0 → m ≡ 0
unfolding non_zero
non_zero_none zero e = refl
non_zero_none (suc m) e = absurd (omega arith)

pub non_zero_zero : non_zero 0 ≡ 0
unfolding non_zero
non_zero_zero = refl

-- ---- the value of a mask
pub mask_same : (k : ℕ) (f g : ℕ → ℕ) → ((i : ℕ) → i < k → f i ≡ g i) → mask k f ≡ mask k g
unfolding mask
mask_same zero f g h = refl
mask_same (suc k) f g h =
    omega (arith, mask_same k (λ i. f (suc i)) (λ i. g (suc i)) (λ i l. h (suc i) (omega arith)), h 0 (omega arith))

pub mask_below : (k : ℕ) (f : ℕ → ℕ) → Bit f → mask k f < 2 ^ k
unfolding mask
mask_below zero f b = omega arith
mask_below (suc k) f b = omega (arith, mask_below k (λ i. f (suc i)) (λ i. b (suc i)), b 0)

pub mask_none : (k : ℕ) (f : ℕ → ℕ) → mask k f ≡ 0 → (i : ℕ) → i < k → f i ≡ 0
unfolding mask
mask_none zero f e i l = absurd (omega arith)
mask_none (suc k) f e zero l = omega arith
mask_none (suc k) f e (suc i) l = mask_none k (λ i. f (suc i)) (omega arith) i (omega arith)

pub mask_some : (k : ℕ) (f : ℕ → ℕ) (i : ℕ) → i < k → 1 ≤ f i → 1 ≤ mask k f
unfolding mask
mask_some zero f i l h = absurd (omega arith)
mask_some (suc k) f zero l h = omega arith
mask_some (suc k) f (suc i) l h = omega (arith, mask_some k (λ i. f (suc i)) i (omega arith) h)

-- ---- bit by bit
half : (a x : ℕ) → x ≤ 1 → (a * 2 + x) / 2 ≡ a
half a x h = omega arith

odd : (a x : ℕ) → x ≤ 1 → (a * 2 + x) % 2 ≡ x
odd a x h = omega arith

or_bits : (a b x y : ℕ) → x ≤ 1 → y ≤ 1 → bit_or (a * 2 + x) (b * 2 + y) ≡ bit_or a b * 2 + max x y
or_bits a b x y h k =
    or_step (a * 2 + x) (b * 2 + y)
    ∙ ap₂ ◌+◌ (ap (λ (t : ℕ). t * 2) (ap₂ bit_or (half a x h) (half b y k))) (ap₂ max (odd a x h) (odd b y k))

and_bits : (a b x y : ℕ) → x ≤ 1 → y ≤ 1 → bit_and (a * 2 + x) (b * 2 + y) ≡ bit_and a b * 2 + min x y
and_bits a b x y h k =
    and_step (a * 2 + x) (b * 2 + y)
    ∙ ap₂ ◌+◌ (ap (λ (t : ℕ). t * 2) (ap₂ bit_and (half a x h) (half b y k))) (ap₂ min (odd a x h) (odd b y k))

-- ---- one bit set, one bit cleared
-- g is f but for place j
abbrev pub But : ℕ → (ℕ → ℕ) → (ℕ → ℕ) → Type 0
But j f g = (i : ℕ) → i ≢ j → g i ≡ f i

but_suc : (j : ℕ) (f g : ℕ → ℕ) → But (suc j) f g → But j (λ i. f (suc i)) (λ i. g (suc i))
but_suc j f g h i d = h (suc i) (λ e. d (suc_inj e))

but_zero : (k : ℕ) (f g : ℕ → ℕ) → But 0 f g → mask k (λ i. g (suc i)) ≡ mask k (λ i. f (suc i))
but_zero k f g h = mask_same k (λ i. g (suc i)) (λ i. f (suc i)) (λ i _. h (suc i) (omega arith))

pub mask_set : (k j : ℕ) (f g : ℕ → ℕ) → j < k → Bit f → g j ≡ 1 → But j f g → set_bit (mask k f) j ≡ mask k g
unfolding mask
mask_set zero j f g l b e h = absurd (omega arith)
mask_set (suc k) zero f g l b e h =
    let rest = mask k (λ i. f (suc i)) in
    ap (bit_or (rest * 2 + f 0)) one ∙ or_bits rest 0 (f 0) 1 (b 0) (omega arith)
    ∙ omega (arith, or_zero_r rest, b 0, e, but_zero k f g h)
  where
    one : 2 ^ 0 ≡ 0 * 2 + 1
    one = refl
mask_set (suc k) (suc j) f g l b e h =
    let rest = mask k (λ i. f (suc i)) in
    ap (bit_or (rest * 2 + f 0)) double ∙ or_bits rest (2 ^ j) (f 0) 0 (b 0) (omega arith)
    ∙ omega (
      arith,
      mask_set k j (λ i. f (suc i)) (λ i. g (suc i)) (omega arith) (λ i. b (suc i)) e (but_suc j f g h),
      h 0 (omega arith),
    )
  where
    double : 2 ^ suc j ≡ 2 ^ j * 2 + 0
    double = omega arith

pub mask_cleared : (k j : ℕ) (f g : ℕ → ℕ) → j < k → Bit f → g j ≡ 0 → But j f g → clear_bit k (mask k f) j ≡ mask k g
unfolding mask
mask_cleared zero j f g l b e h = absurd (omega arith)
mask_cleared (suc k) zero f g l b e h =
    let rest = mask k (λ i. f (suc i)) in
    ap (bit_and (rest * 2 + f 0)) ones ∙ and_bits rest (2 ^ k - 1) (f 0) 0 (b 0) (omega arith)
    ∙ omega (arith, all, e, but_zero k f g h)
  where
    ones : (2 ^ suc k - 1) - 2 ^ 0 ≡ (2 ^ k - 1) * 2 + 0
    ones = omega (arith, pow_pos k)

    all : bit_and (mask k (λ i. f (suc i))) (2 ^ k - 1) ≡ mask k (λ i. f (suc i))
    all = and_mask (mask k (λ i. f (suc i))) k ∙ mod-eq_of_lt (mask_below k (λ i. f (suc i)) (λ i. b (suc i)))
mask_cleared (suc k) (suc j) f g l b e h =
    let rest = mask k (λ i. f (suc i)) in
    ap (bit_and (rest * 2 + f 0)) double ∙ and_bits rest ((2 ^ k - 1) - 2 ^ j) (f 0) 1 (b 0) (omega arith)
    ∙ omega (
      arith,
      mask_cleared k j (λ i. f (suc i)) (λ i. g (suc i)) (omega arith) (λ i. b (suc i)) e (but_suc j f g h),
      h 0 (omega arith),
      b 0,
    )
  where
    double : (2 ^ suc k - 1) - 2 ^ suc j ≡ ((2 ^ k - 1) - 2 ^ j) * 2 + 1
    double = omega (arith, pow-lt {i = j} {j = k} (omega arith))
