-- A number's digits: one by one, how many, and what they make. Assumes nothing.
use Prim.Native.Nat.{ℕ, zero, suc, ◌+◌, ◌-◌, ◌*◌, ◌/◌, ◌%◌, ◌^◌, ◌≤◌, ◌<◌}
use native.Mathlib.Numerals.{add-one}
use native.Mathlib.Omega.{arith}
use mathlib.Core.Path.{◌≡◌, refl, sym, ap, ◌∙◌}
use mathlib.Core.List.{List, [], ◌∷◌, ◌++◌}
use lib.ListN.{length, drop, get_or, length-append}
use lib.Seq.{drop-cons, drop-length}
use borrow.Author.Tests.{lt-ltb, le-ltb}
use Rattle.basics.proofs.Decided.{below, beyond, below?}
use Rattle.journal_text.specs.Decimal.{digits_of, decimal}
use Rattle.journal_text.specs.Lines.{made_on}

-- ---- one by one
last_one : (most n : ℕ) → n < 10 → digits_of (suc most) n ≡ (48 + n) ∷ []
unfolding digits_of
last_one most n h = rw (lt-ltb n 10 h)

one_more : (most n : ℕ) → 10 ≤ n → digits_of (suc most) n ≡ digits_of most (n / 10) ++ ((48 + n % 10) ∷ [])
unfolding digits_of
one_more most n h = rw (le-ltb n 10 h)

-- how many are allowed does not matter where they are enough
enough : (most more n : ℕ) → n ≤ most → n ≤ more → digits_of (suc most) n ≡ digits_of (suc more) n
enough zero more n h k = last_one zero n (omega arith) ∙ sym (last_one more n (omega arith))
enough (suc most) zero n h k = last_one (suc most) n (omega arith) ∙ sym (last_one zero n (omega arith))
enough (suc most) (suc more) n h k = elim (below? n 10) [
  | below p e ↦ last_one (suc most) n p ∙ sym (last_one (suc more) n p)
  | beyond p e ↦
      one_more (suc most) n p
      ∙ ap (λ (l : List ℕ). l ++ ((48 + n % 10) ∷ [])) (enough most more (n / 10) (omega arith) (omega arith))
      ∙ sym (one_more (suc more) n p)
]

pub decimal_digit : (n : ℕ) → n < 10 → decimal n ≡ (48 + n) ∷ []
unfolding decimal
decimal_digit n h = last_one n n h

pub decimal_more : (n : ℕ) → 10 ≤ n → decimal n ≡ decimal (n / 10) ++ ((48 + n % 10) ∷ [])
unfolding decimal
decimal_more zero h = absurd (omega arith)
decimal_more (suc n) h =
    one_more (suc n) (suc n) h ∙ ap (λ (l : List ℕ). l ++ ((48 + suc n % 10) ∷ [])) (enough n (suc n / 10) (suc n / 10) (omega arith) (omega arith))

-- what holds of the digits, and of a number if of its tenth, holds of all
by_tenths : (P : ℕ → Type 0) → ((n : ℕ) → n < 10 → P n) → ((n : ℕ) → 10 ≤ n → P (n / 10) → P n) → (most n : ℕ) → n ≤ most → P n
by_tenths P one more zero n h = one n (omega arith)
by_tenths P one more (suc most) n h = elim (below? n 10) [
  | below p e ↦ one n p
  | beyond p e ↦ more n p (by_tenths P one more most (n / 10) (omega arith))
]

pub of_tenths : (P : ℕ → Type 0) → ((n : ℕ) → n < 10 → P n) → ((n : ℕ) → 10 ≤ n → P (n / 10) → P n) → (n : ℕ) → P n
of_tenths P one more n = by_tenths P one more n n (omega arith)

-- ---- how many
pub length_more : (n : ℕ) → 10 ≤ n → length (decimal n) ≡ length (decimal (n / 10)) + 1
length_more n h = ap length (decimal_more n h) ∙ length-append (decimal (n / 10)) ((48 + n % 10) ∷ [])

pub length_digit : (n : ℕ) → n < 10 → length (decimal n) ≡ 1
length_digit n h = ap length (decimal_digit n h)

pub has_digits : (n : ℕ) → 1 ≤ length (decimal n)
has_digits = of_tenths (λ n. 1 ≤ length (decimal n)) (λ n h. omega (arith, length_digit n h)) (λ n h further. omega (arith, length_more n h))

at_most : (k n : ℕ) → n < 10 ^ suc k → length (decimal n) ≤ suc k
at_most zero n h = omega (arith, length_digit n (omega arith))
at_most (suc k) n h = elim (below? n 10) [
  | below p e ↦ omega (arith, length_digit n p)
  | beyond p e ↦ omega (arith, length_more n p, at_most k (n / 10) (omega arith))
]

pub at_most_ten : (n : ℕ) → n < 2 ^ 32 → length (decimal n) ≤ 10
at_most_ten n h = at_most 9 n (omega arith)

-- ---- what they make
pub made_append : (n : ℕ) (a b : List ℕ) → made_on n (a ++ b) ≡ made_on (made_on n a) b
unfolding made_on
made_append n [] b = refl
made_append n (x ∷ a) b = made_append (10 * n + (x - 48)) a b

pub makes_up : (n : ℕ) → made_on 0 (decimal n) ≡ n
unfolding made_on
makes_up = of_tenths (λ n. made_on 0 (decimal n) ≡ n) digit_made more_made
  where
    digit_made : (n : ℕ) → n < 10 → made_on 0 (decimal n) ≡ n
    digit_made n h = ap (λ (l : List ℕ). made_on 0 l) (decimal_digit n h) ∙ omega arith

    more_made : (n : ℕ) → 10 ≤ n → made_on 0 (decimal (n / 10)) ≡ n / 10 → made_on 0 (decimal n) ≡ n
    more_made n h tenth =
        let split : made_on 0 (decimal n) ≡ 10 * made_on 0 (decimal (n / 10)) + ((48 + n % 10) - 48) =
        ap (λ (l : List ℕ). made_on 0 l) (decimal_more n h) ∙ made_append 0 (decimal (n / 10)) ((48 + n % 10) ∷ []) in
        omega (arith, split, tenth)

-- more digits never make less
pub made_grows : (n : ℕ) (text : List ℕ) → n ≤ made_on n text
unfolding made_on
made_grows n [] = omega arith
made_grows n (b ∷ bs) = omega (arith, made_grows (10 * n + (b - 48)) bs)

-- the digit at a place, and those behind it
pub made_next : (n m : ℕ) (text : List ℕ) (i : ℕ) → i < length text → m ≡ 10 * n + (get_or text i 0 - 48)
    → made_on n (drop i text) ≡ made_on m (drop (i + 1) text)
unfolding made_on
made_next n m text i h e = rw (add-one, drop-cons text i 0 h, e)

pub made_all : (n : ℕ) (text : List ℕ) (i : ℕ) → i ≡ length text → made_on n (drop i text) ≡ n
unfolding made_on
made_all n text i h = rw (h, drop-length)
