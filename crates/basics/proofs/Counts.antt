-- How often a number stands in a list, `tally (is r) xs`: that a list holds a number, and that it holds none twice, are said by it, so that
-- omega can move them about. Assumes nothing.
use mathlib.Core.Path.{◌≡◌, sym, ap}
use mathlib.Core.Logic.{◌≢◌}
use mathlib.Core.List.{List, [], ◌∷◌, ◌++◌}
use Prim.Native.Nat.{ℕ, ◌+◌, ◌≤◌, ◌<◌}
use native.Mathlib.Omega.{arith}
use lib.Dec.{ltb}
use Rattle.basics.specs.Sum.{one, is, tally}
use Rattle.basics.proofs.Decided.{same, differ, same?, eqb_same, below, beyond, below?}

-- the number r stands in the list
abbrev pub In : ℕ → List ℕ → Type 0
In r xs = 1 ≤ tally (is r) xs

-- no number stands in it twice
abbrev pub Distinct : List ℕ → Type 0
Distinct xs = (r : ℕ) → tally (is r) xs ≤ 1

-- ---- one number
pub data Match (r q : ℕ) : Type 0 where
  hit : r ≡ q → is r q ≡ 1 → Match r q
  miss : r ≢ q → is r q ≡ 0 → Match r q

pub match? : (r q : ℕ) → Match r q
match? r q = elim (same? q r) [ same p e ↦ hit (sym p) (ap one e) | differ p e ↦ miss (λ h. p (sym h)) (ap one e) ]

pub is_own : (r : ℕ) → is r r ≡ 1
is_own r = ap one (eqb_same r)

-- two numbers, of which the one stands where the other does not
pub apart_by : (r q n : ℕ) → 1 ≤ n → n + is r q ≤ 1 → r ≢ q
apart_by r q n h k e = omega (arith, is_own q, ap (λ (x : ℕ). is x q) e)

-- 1 for a number below n says that it is below n
pub one_below : (r n : ℕ) → 1 ≤ one (ltb r n) → r < n
one_below r n h = elim (below? r n) [ below p e ↦ p | beyond p e ↦ absurd (omega (arith, ap one e)) ]

-- ---- lists
pub in_tail : (r x : ℕ) (xs : List ℕ) → In r xs → In r (x ∷ xs)
in_tail r x xs h = omega arith

-- where the list is split at a number that it holds
pub record SplitAt (r : ℕ) (xs : List ℕ) : Type 0 where
  pub front : List ℕ
  pub back : List ℕ
  pub split_is : xs ≡ front ++ r ∷ back

pub split_at : (r : ℕ) (xs : List ℕ) → In r xs → SplitAt r xs
split_at r [] h = absurd (omega arith)
split_at r (x ∷ xs) h = go (match? r x) (split_at r xs)
  where
    go : Match r x → (In r xs → SplitAt r xs) → SplitAt r (x ∷ xs)
    go (hit e o) further = record { front = []; back = xs; split_is = ap {B = List ℕ} (λ y. y ∷ xs) (sym e) }
    go (miss d o) further =
        let s = further (omega arith) in
        record { front = x ∷ s.front; back = s.back; split_is = ap {B = List ℕ} (λ ys. x ∷ ys) s.split_is }

pub distinct_tail : (x : ℕ) (xs : List ℕ) → Distinct (x ∷ xs) → Distinct xs
distinct_tail x xs h r = omega (arith, h r)

pub distinct_head : (x : ℕ) (xs : List ℕ) → Distinct (x ∷ xs) → (r : ℕ) → In r xs → r ≢ x
distinct_head x xs h r m = apart_by r x (tally (is r) xs) m (omega (arith, h r))
