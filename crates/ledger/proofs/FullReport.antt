-- The full report counts the free regions of the line, class by class, and none in the last sixteen. Assumes nothing.
use mathlib.Core.Path.{◌≡◌, refl, ap, ◌∙◌, fun_ext}
use Prim.Native.Nat.{ℕ, ◌+◌, ◌^◌, ◌≤◌, ◌<◌}
use native.Mathlib.Omega.{arith}
use mathlib.Core.Bool.{Bool, true, false, cond, ◌&&◌}
use mathlib.Core.List.{List, [], ◌∷◌, map}
use lib.ListN.{length, drop}
use lib.Dec.{eqb}
use Rattle.basics.specs.Sum.{one, is, tally}
use Rattle.basics.proofs.Decided.{same, differ, same?}
use Rattle.small_float.specs.Class.{down, value}
use Rattle.small_float.specs.LastValues.{last_values}
use Rattle.small_float.proofs.Rounding.{down_most}
use Rattle.ledger.specs.Ledger.{Ledger, Region, live, free, len, numbers_from, full_at, full_of, Stacks, by_class, stands}
use Rattle.ledger.specs.WellFormed.{WellFormed}
use Rattle.ledger.specs.Claims.{free_of_class}
use Rattle.ledger.proofs.Numbers.{same_length, map_numbers}

-- the records of the free regions of class c, in the line's order
unfoldable pub records_of : ℕ → List Region → List ℕ
records_of c [] = []
records_of c (live n r ∷ rest) = records_of c rest
records_of c (free n r ∷ rest) = cond (eqb c (down n)) (r ∷ records_of c rest) (records_of c rest)

pub records_stand : (c i : ℕ) (line : List Region) → tally (is i) (records_of c line) ≡ tally (stands c i) line
unfolding records_of
records_stand c i [] = refl
records_stand c i (live n r ∷ rest) = omega (arith, records_stand c i rest)
records_stand c i (free n r ∷ rest) = go (eqb c (down n)) (records_stand c i rest)
  where
    go : (t : Bool) → tally (is i) (records_of c rest) ≡ tally (stands c i) rest
        → tally (is i) (cond t (r ∷ records_of c rest) (records_of c rest)) ≡ one (t && eqb r i) + tally (stands c i) rest
    go true e = omega arith
    go false e = omega arith

pub records_many : (c : ℕ) (line : List Region) → length (records_of c line) ≡ tally (free_of_class c) line
unfolding records_of
records_many c [] = refl
records_many c (live n r ∷ rest) = omega (arith, records_many c rest)
records_many c (free n r ∷ rest) = go (eqb c (down n)) (records_many c rest)
  where
    go : (t : Bool) → length (records_of c rest) ≡ tally (free_of_class c) rest
        → length (cond t (r ∷ records_of c rest) (records_of c rest)) ≡ one t + tally (free_of_class c) rest
    go true e = omega arith
    go false e = omega arith

-- no region enters a class from 240 on
none_enters : (c : ℕ) (line : List Region) → 240 ≤ c → tally len line < 2 ^ 32 → tally (free_of_class c) line ≡ 0
none_enters c [] h small = refl
none_enters c (live n r ∷ rest) h small = omega (arith, none_enters c rest h (omega arith))
none_enters c (free n r ∷ rest) h small = elim (same? c (down n)) [
  | same p e ↦ absurd (omega (arith, down_most n (omega arith)))
  | differ p e ↦ rw e (omega (arith, none_enters c rest h (omega arith)))
]

module _ (size count : ℕ) where
  -- a stack is as long as its class has free regions
  pub stack_length : (l : Ledger Stacks) → WellFormed by_class size count l → (c : ℕ) → length (l.index c) ≡ tally (free_of_class c) l.line
  stack_length l w c =
      same_length (l.index c) (records_of c l.line) (λ i. omega (arith, w.kept.exactly c i, records_stand c i l.line))
      ∙ records_many c l.line

  pub full_report_lem : (l : Ledger Stacks) → WellFormed by_class size count l
      → full_of l.index ≡ map (λ c. (value c, tally (free_of_class c) l.line)) (numbers_from 0 256)
  unfolding full_of full_at
  full_report_lem l w = ap (λ entry. map entry (numbers_from 0 256)) (fun_ext (λ c. ap (λ n. (value c, n)) (stack_length l w c)))

  pub last_sixteen : size < 2 ^ 32 → (l : Ledger Stacks) → WellFormed by_class size count l
      → drop 240 (full_of l.index) ≡ map (λ (row : ℕ × ℕ). (row.1, 0)) last_values
  unfolding numbers_from value
  last_sixteen small l w =
      ap (drop 240) (full_report_lem l w)
      ∙ map_numbers
      (λ c. (value c, tally (free_of_class c) l.line))
      (λ c. (value c, 0))
      240
      16
      (λ c h k. ap (λ n. (value c, n)) (none_enters c l.line h (omega (arith, w.lined.cover))))
