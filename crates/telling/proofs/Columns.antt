-- A full report's columns, a class at a time. Assumes nothing.
use Prim.Native.Nat.{ℕ, zero, suc, ◌+◌, ◌<◌}
use mathlib.Core.Path.{◌≡◌, refl, ap, ◌∙◌}
use mathlib.Core.List.{List, map}
use native.Mathlib.Nat.{add-zero, zero-add}
use native.Mathlib.Omega.{arith}
use lib.ListN.{get_or}
use Rattle.ledger.specs.Ledger.{numbers_from}
use Rattle.answers.specs.Answers.{columns}
use Rattle.telling.specs.Told.{one_if_held, classes_held}

pub at_column : (f : ℕ → ℕ × ℕ) (i n r : ℕ) → i < n → get_or (map f (numbers_from r n)) i (0, 0) ≡ f (r + i)
unfolding numbers_from
at_column f i zero r h = absurd (omega arith)
at_column f zero (suc n) r h = ap f (omega arith)
at_column f (suc i) (suc n) r h = at_column f i n (suc r) (omega arith) ∙ ap f (omega arith)

-- how many of the classes below n hold something
unfoldable pub held_below : (n : ℕ) → (counts : List ℕ) → ℕ
held_below zero counts = 0
held_below (suc n) counts = held_below n counts + one_if_held (get_or counts n 0)

none_below : (counts : List ℕ) → held_below 0 counts ≡ 0
unfolding held_below
none_below counts = refl

shifted : (r n : ℕ) → suc r + n ≡ r + suc n
shifted r n = omega arith

module _ (sizes counts : List ℕ) where
  abbrev class_at : ℕ → ℕ × ℕ
  class_at c = (get_or sizes c 0, get_or counts c 0)

  held_from : (n r : ℕ) → classes_held (map class_at (numbers_from r n)) + held_below r counts ≡ held_below (r + n) counts
  unfolding numbers_from held_below
  held_from zero r = omega (arith, ap (λ m. held_below m counts) (add-zero r))
  held_from (suc n) r = omega (arith, held_from n (suc r), ap (λ m. held_below m counts) (shifted r n))

  held_to : (n : ℕ) → held_below n counts ≡ classes_held (map class_at (numbers_from 0 n))
  held_to n = omega (arith, held_from n 0, none_below counts, ap (λ m. held_below m counts) (zero-add n))

  pub held_in_columns : held_below 256 counts ≡ classes_held (columns sizes counts)
  held_in_columns = held_to 256
