-- Counting and adding up. Assumes nothing.
use Rattle.std.specs.Prelude.{◌≡◌, ◌≢◌, ℕ, ◌+◌, Bool, true, false, List, [], ◌∷◌, ◌++◌, eqb}

-- 1 for a test that holds, 0 for one that does not: a sum of these is a count
abbrev pub one : Bool → ℕ
one true = 1
one false = 0

-- 1 where the number q is r: `tally (is r) xs` is how often r stands in xs
abbrev pub is : ℕ → ℕ → ℕ
is r q = one (eqb q r)

module _ {A : Type 0} where
  -- what f gives for each member of a list, added up
  abbrev pub tally : (A → ℕ) → List A → ℕ
  tally f [] = 0
  tally f (x ∷ xs) = f x + tally f xs

-- told from the other side; proofs/Sums.antt makes it
pub record SumMeans (A : Type 0) : Type 0 where
  -- the sum over one member is what f gives for it, and two lists behind each other add up
  pub of_one : (f : A → ℕ) (x : A) → tally f (x ∷ []) ≡ f x
  pub of_both : (f : A → ℕ) (front rest : List A) → tally f (front ++ rest) ≡ tally f front + tally f rest
  -- a number that is r counts once, and no other counts
  pub counts_itself : (r : ℕ) → is r r ≡ 1
  pub counts_no_other : (r q : ℕ) → q ≢ r → is r q ≡ 0
