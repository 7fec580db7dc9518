-- Sums over the numbers below n, and what they say of lists of such numbers: distinct ones are no more than n, and a list that stands in
-- another of its length is that one, but for the order. Assumes nothing.
use mathlib.Core.Path.{◌≡◌, refl, ap, sym, ◌∙◌}
use mathlib.Core.List.{List, [], ◌∷◌}
use Prim.Native.Nat.{ℕ, zero, suc, ◌+◌, ◌≤◌, ◌<◌}
use native.Mathlib.Omega.{arith}
use lib.ListN.{length}
use Rattle.basics.specs.Sum.{is, tally}
use Rattle.basics.proofs.Decided.{same, differ, same?, below, beyond, below?}
use Rattle.basics.proofs.Sums.{held_first}
use Rattle.basics.proofs.Counts.{In, Distinct, Match, hit, miss, match?, in_tail}

-- what f gives for the numbers below n, added up
unfoldable pub sum_below : ℕ → (ℕ → ℕ) → ℕ
sum_below zero f = 0
sum_below (suc n) f = sum_below n f + f n

pub sum_zero : (n : ℕ) → sum_below n (λ r. 0) ≡ 0
unfolding sum_below
sum_zero zero = refl
sum_zero (suc n) = omega (arith, sum_zero n)

pub sum_plus : (n : ℕ) (f g : ℕ → ℕ) → sum_below n (λ r. f r + g r) ≡ sum_below n f + sum_below n g
unfolding sum_below
sum_plus zero f g = omega arith
sum_plus (suc n) f g = omega (arith, sum_plus n f g)

sum_most : (n : ℕ) (f : ℕ → ℕ) → ((r : ℕ) → f r ≤ 1) → sum_below n f ≤ n
unfolding sum_below
sum_most zero f h = omega arith
sum_most (suc n) f h = omega (arith, sum_most n f h, h n)

-- ---- term by term
pub sum_same : (n : ℕ) (f g : ℕ → ℕ) → ((i : ℕ) → i < n → f i ≡ g i) → sum_below n f ≡ sum_below n g
unfolding sum_below
sum_same zero f g h = refl
sum_same (suc n) f g h = omega (arith, sum_same n f g (λ i l. h i (omega arith)), h n (omega arith))

pub sum_le : (n : ℕ) (f g : ℕ → ℕ) → ((i : ℕ) → i < n → f i ≤ g i) → sum_below n f ≤ sum_below n g
unfolding sum_below
sum_le zero f g h = omega arith
sum_le (suc n) f g h = omega (arith, sum_le n f g (λ i l. h i (omega arith)), h n (omega arith))

-- no term greater, and as much in all: every term is equal
pub sum_equal : (n : ℕ) (f g : ℕ → ℕ) → ((i : ℕ) → i < n → f i ≤ g i) → sum_below n f ≡ sum_below n g → (i : ℕ) → i < n → f i ≡ g i
unfolding sum_below
sum_equal zero f g h e i l = absurd (omega arith)
sum_equal (suc n) f g h e i l =
    let lower : (j : ℕ) → j < n → f j ≤ g j = λ j k. h j (omega arith) in
    let most = sum_le n f g lower in
    let last : f n ≡ g n = omega (arith, h n (omega arith)) in
    elim (same? i n) [
      | same s t ↦ ap f s ∙ last ∙ sym (ap g s)
      | differ s t ↦ sum_equal n f g lower (omega arith) i (omega arith)
    ]

-- a term and those before it
pub sum_part : (n : ℕ) (f : ℕ → ℕ) (c : ℕ) → c < n → sum_below c f + f c ≤ sum_below n f
unfolding sum_below
sum_part zero f c l = absurd (omega arith)
sum_part (suc n) f c l = elim (same? c n) [
  | same s t ↦ omega (arith, ap f s, ap (λ (k : ℕ). sum_below k f) s)
  | differ s t ↦ omega (arith, sum_part n f c (omega arith))
]

-- ---- a number counts once among those below n, if it is below n
sum_beyond : (n x : ℕ) → n ≤ x → sum_below n (λ r. is r x) ≡ 0
unfolding sum_below
sum_beyond zero x h = refl
sum_beyond (suc n) x h = elim (match? n x) [
  | hit e o ↦ absurd (omega arith)
  | miss d o ↦ omega (arith, sum_beyond n x (omega arith))
]

pub sum_once : (n x : ℕ) → x < n → sum_below n (λ r. is r x) ≡ 1
unfolding sum_below
sum_once zero x h = absurd (omega arith)
sum_once (suc n) x h = go (match? n x) (sum_once n x)
  where
    go : Match n x → (x < n → sum_below n (λ r. is r x) ≡ 1) → sum_below n (λ r. is r x) + is n x ≡ 1
    go (hit e o) lower = omega (arith, sum_beyond n x (omega arith))
    go (miss d o) lower = omega (arith, lower (omega arith))

-- ---- lists of numbers below n
abbrev pub AllBelow : ℕ → List ℕ → Type 0
AllBelow n xs = (r : ℕ) → In r xs → r < n

sum_length : (n : ℕ) (xs : List ℕ) → AllBelow n xs → sum_below n (λ r. tally (is r) xs) ≡ length xs
sum_length n [] h = sum_zero n
sum_length n (x ∷ xs) h = omega (
  arith,
  sum_plus n (λ r. is r x) (λ r. tally (is r) xs),
  sum_once n x (h x (held_first x xs)),
  sum_length n xs (λ r m. h r (in_tail r x xs m)),
)

pub pigeons : (n : ℕ) (xs : List ℕ) → AllBelow n xs → Distinct xs → length xs ≤ n
pigeons n xs h d = omega (arith, sum_length n xs h, sum_most n (λ r. tally (is r) xs) d)

-- xs stands in ys: no number stands in it more often
abbrev pub Within : List ℕ → List ℕ → Type 0
Within xs ys = (r : ℕ) → tally (is r) xs ≤ tally (is r) ys

module _ (n : ℕ) (xs ys : List ℕ) (low : AllBelow n ys) (inside : Within xs ys) where
  low_too : AllBelow n xs
  low_too r m = low r (omega (arith, inside r))

  pub within_shorter : length xs ≤ length ys
  within_shorter = omega (
    arith,
    sum_length n xs low_too,
    sum_length n ys low,
    sum_le n (λ r. tally (is r) xs) (λ r. tally (is r) ys) (λ r _. inside r),
  )

  -- of the same length, it holds each number as often
  pub within_whole : length xs ≡ length ys → (r : ℕ) → tally (is r) xs ≡ tally (is r) ys
  within_whole e r = elim (below? r n) [
    | below h t ↦ sum_equal n (λ r. tally (is r) xs) (λ r. tally (is r) ys) (λ i _. inside i)
        (sum_length n xs low_too ∙ e ∙ sym (sum_length n ys low)) r h
    | beyond h t ↦ absent (tally (is r) ys) refl h
  ]
    where
      absent : (k : ℕ) → tally (is r) ys ≡ k → n ≤ r → tally (is r) xs ≡ tally (is r) ys
      absent zero z h = omega (arith, inside r)
      absent (suc k) z h = let l : r < n = low r (omega arith) in absurd (omega arith)
