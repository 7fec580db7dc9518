-- Sums over lists, and counts of tests. Assumes nothing.
use mathlib.Core.Path.{◌≡◌, refl, ap}
use Prim.Native.Nat.{ℕ, suc, ◌+◌, ◌≤◌}
use native.Mathlib.Omega.{arith}
use mathlib.Core.Bool.{Bool, true, false, ◌&&◌}
use mathlib.Core.List.{List, [], ◌∷◌, ◌++◌, map, reverse_aux}
use lib.ListN.{length, get_or, drop}
use lib.Dec.{ltb}
use Rattle.basics.specs.Sum.{one, is, tally, SumMeans}
use Rattle.basics.proofs.Decided.{Same, same, differ, same?, eqb_same, Below, below, beyond, below?}

-- ---- sums
module _ {A : Type 0} where
  pub tally_append : (f : A → ℕ) (front rest : List A) → tally f (front ++ rest) ≡ tally f front + tally f rest
  tally_append f [] rest = omega arith
  tally_append f (x ∷ front) rest = omega (arith, tally_append f front rest)

  -- the order does not matter
  pub tally_reverse_aux : (f : A → ℕ) (front rest : List A) → tally f (reverse_aux front rest) ≡ tally f front + tally f rest
  tally_reverse_aux f [] rest = omega arith
  tally_reverse_aux f (x ∷ front) rest = omega (arith, tally_reverse_aux f front (x ∷ rest))

  pub tally_le : (f g : A → ℕ) → ((x : A) → f x ≤ g x) → (xs : List A) → tally f xs ≤ tally g xs
  tally_le f g h [] = omega arith
  tally_le f g h (x ∷ xs) = omega (arith, h x, tally_le f g h xs)

  pub tally_length : (xs : List A) → tally (λ x. 1) xs ≡ length xs
  tally_length [] = refl
  tally_length (x ∷ xs) = omega (arith, tally_length xs)

  -- the first and the rest
  pub tally_first : (f : A → ℕ) (xs : List A) (default : A) → 1 ≤ length xs → f (get_or xs 0 default) + tally f (drop 1 xs) ≡ tally f xs
  tally_first f [] default h = absurd (omega arith)
  tally_first f (x ∷ xs) default h = refl

pub tally_map : {A B : Type 0} (f : B → ℕ) (g : A → B) (xs : List A) → tally f (map g xs) ≡ tally (λ x. f (g x)) xs
tally_map f g [] = refl
tally_map f g (x ∷ xs) = ap (λ rest. f (g x) + rest) (tally_map f g xs)

-- ---- tests, counted as 1 or 0
pub one_most : (t : Bool) → one t ≤ 1
one_most true = omega arith
one_most false = omega arith

pub both_first : (s t : Bool) → one (s && t) ≤ one s
both_first true t = one_most t
both_first false t = omega arith

pub both_second : (s t : Bool) → one (s && t) ≤ one t
both_second true t = omega arith
both_second false t = omega arith

-- a list holds its first
pub held_first : (r : ℕ) (rest : List ℕ) → 1 ≤ tally (is r) (r ∷ rest)
held_first r rest = omega (arith, ap one (eqb_same r))

-- below r + 1 are the numbers below r, and r
pub below_suc : (i r : ℕ) → one (ltb i (suc r)) ≡ one (ltb i r) + is i r
below_suc i r = go (below? i (suc r)) (below? i r) (same? r i)
  where
    go : Below i (suc r) → Below i r → Same r i → one (ltb i (suc r)) ≡ one (ltb i r) + is i r
    go (below h e) (below k f) (same p q) = absurd (omega arith)
    go (below h e) (below k f) (differ p q) = rw (e, f, q)
    go (below h e) (beyond k f) (same p q) = rw (e, f, q)
    go (below h e) (beyond k f) (differ p q) = absurd (omega arith)
    go (beyond h e) (below k f) s = absurd (omega arith)
    go (beyond h e) (beyond k f) (same p q) = absurd (omega arith)
    go (beyond h e) (beyond k f) (differ p q) = rw (e, f, q)

pub below_zero : (i : ℕ) → one (ltb i 0) ≡ 0
below_zero i = elim (below? i 0) [ below h e ↦ absurd (omega arith) | beyond h e ↦ ap one e ]

-- ---- what a sum is, from the other side
pub sum_means : (A : Type 0) → SumMeans A
sum_means A = record {
  of_one = λ f x. omega arith;
  of_both = λ f front rest. tally_append f front rest;
  counts_itself = λ r. ap one (eqb_same r);
  counts_no_other = λ r q other. elim (same? q r) [ same p e ↦ absurd (other p) | differ p e ↦ ap one e ];
}
