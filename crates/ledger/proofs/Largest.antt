-- The report's second number by classes, the classes that do not reach a request, and requests without a class. Assumes nothing.
use mathlib.Core.Path.{◌≡◌, ap, ◌∙◌}
use Prim.Native.Nat.{ℕ, ◌^◌, ◌≤◌, ◌<◌}
use native.Mathlib.Omega.{arith}
use mathlib.Core.Bool.{cond}
use mathlib.Core.Logic.{◌↔◌, ◌≢◌}
use mathlib.Core.List.{List, [], ◌∷◌}
use lib.ListN.{length}
use Rattle.basics.proofs.Clash.{clash}
use Rattle.basics.proofs.Decided.{same, differ, same?, below, beyond, below?}
use Rattle.small_float.specs.Class.{down, up, value, classes_in_use, greatest_served, rounded_up, Reaches}
use Rattle.small_float.proofs.Rounding.{down_most, reaches_number, rounded_to_none}
use Rattle.ledger.specs.Ledger.{Ledger, Stacks, by_class, free, len, refused, spares, lowest_from, highest, take, report}
use Rattle.ledger.specs.WellFormed.{WellFormed}
use Rattle.ledger.specs.Spans.{At}
use Rattle.ledger.specs.Claims.{NoneReaches}
use Rattle.ledger.proofs.Places.{at_weighs}
use Rattle.ledger.proofs.Searches.{Highest, all_empty, highest_is, highest?}
use Rattle.ledger.proofs.ByClass.{class_laws, held}
use Rattle.ledger.proofs.ReportRule.{report_largest}

-- ---- a size without a class
pub take_no_class : (s : ℕ) (l : Ledger Stacks) → greatest_served < s → take by_class s l ≡ (refused (cond (spares l) 4 3), l)
unfolding take lowest_from
take_no_class s l h = elim (below? 1 (length l.pile)) [ below k e ↦ rw (e, rounded_to_none s h) | beyond k e ↦ rw e ]

pub largest_none : (l : Ledger Stacks) → 2 ≤ length l.pile → ((c : ℕ) → l.index c ≡ []) → (report by_class l).1 ≡ 0
largest_none l two empty = report_largest by_class class_laws l two ∙ go (highest? l.index classes_in_use)
  where
    go : Highest l.index classes_in_use → highest l.index classes_in_use ≡ 0
    go (all_empty m e) = m
    go (highest_is d r under m h top e) = let none : l.index d ≡ [] = empty d in clash (cc)

module _ (size count : ℕ) (small : size < 2 ^ 32) where
  pub none_reaches_by_class : (s : ℕ) (l : Ledger Stacks) → WellFormed by_class size count l
      → NoneReaches by_class s l ↔ ((n r o : ℕ) → At (free n r) o l.line → ¬ Reaches (down n) (rounded_up s))
  none_reaches_by_class s l w = (
    λ none n r o a h. omega (arith, none n (o, r, a), (reached n r o a).0 h),
    λ none n f. elim (below? (down n) (up s)) [
      | below h e ↦ h
      | beyond h e ↦ absurd (none n f.1 f.0 f.2 ((reached n f.1 f.0 f.2).1 h))
    ],
  )
    where
      -- a free region's class is one that a region can have, so it reaches the class exactly if it is at least the number
      reached : (n r o : ℕ) → At (free n r) o l.line → Reaches (down n) (rounded_up s) ↔ (up s ≤ down n)
      reached n r o a = reaches_number s (down n) (omega (arith, down_most n (omega (arith, at_weighs a len, w.lined.cover))))

  pub largest_is : (l : Ledger Stacks) → WellFormed by_class size count l → 2 ≤ length l.pile
      → (c : ℕ) → l.index c ≢ [] → ((d : ℕ) → c < d → l.index d ≡ []) → (report by_class l).1 ≡ value c
  largest_is l w two c some-there none_above = report_largest by_class class_laws l two ∙ go (highest? l.index classes_in_use)
    where
      -- a class in whose stack something stands is one of those in use
      in_use : (stack : List ℕ) → l.index c ≡ stack → c < classes_in_use
      in_use [] e = absurd (some-there e)
      in_use (r ∷ under) e =
          let t = held l.line l.index w.kept c r under e in
          omega (arith, down_most t.n (omega (arith, at_weighs t.there len, w.lined.cover)), t.class_is)

      go : Highest l.index classes_in_use → highest l.index classes_in_use ≡ value c
      go (all_empty m empty) = absurd (some-there (empty c (in_use (l.index c) (λ i. l.index c))))
      go (highest_is d r under m h top empty) =
          elim (same? d c) [
            | same k e ↦ m ∙ ap value k
            | differ k e ↦ elim (below? d c) [
              | below i f ↦ absurd (some-there (empty c i (in_use (l.index c) (λ j. l.index c))))
              | beyond i f ↦ let none : l.index d ≡ [] = none_above d (omega arith) in clash (cc)
            ]
          ]
