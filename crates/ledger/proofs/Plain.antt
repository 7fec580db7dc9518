-- What the counts say, read plainly: which numbers stand in the pile, in the line and in the stacks, and that none stands twice. Assumes nothing.
use mathlib.Core.Path.{◌≡◌, refl, ap}
use Prim.Native.Nat.{ℕ, ◌+◌, ◌≤◌, ◌<◌}
use native.Mathlib.Omega.{arith}
use mathlib.Core.Logic.{◌↔◌, ◌⊎◌, inl, inr, ◌≢◌}
use mathlib.Core.List.{List, [], ◌∷◌, ◌++◌}
use lib.Dec.{ltb}
use Rattle.basics.specs.Sum.{one, is, tally}
use Rattle.basics.proofs.Decided.{below, beyond, below?}
use Rattle.basics.proofs.Sums.{tally_append, tally_le, one_most, held_first}
use Rattle.basics.proofs.Counts.{is_own, one_below, split_at}
use Rattle.small_float.specs.Class.{down}
use Rattle.ledger.specs.Ledger.{Engine, Ledger, Stacks, by_class, Region, free, rec, stands}
use Rattle.ledger.specs.WellFormed.{WellFormed, has}
use Rattle.ledger.specs.Spans.{At, Among}
use Rattle.ledger.proofs.Places.{has_own, between_at, at_counted, at_weighs}
use Rattle.ledger.proofs.Find.{Found, missing, at, found?}
use Rattle.ledger.proofs.Records.{once_in_line}
use Rattle.ledger.proofs.KeptStacks.{stands_own, stands_le}
use Rattle.ledger.proofs.ByClass.{standing}

-- ---- a number stands in a list exactly if the count there is not 0
pub among_counted : (r : ℕ) (xs : List ℕ) → Among r xs → 1 ≤ tally (is r) xs
among_counted r xs h = omega (arith, ap (tally (is r)) h.2, tally_append (is r) h.0 (r ∷ h.1), held_first r h.1)

pub counted_among : (r : ℕ) (xs : List ℕ) → 1 ≤ tally (is r) xs → Among r xs
counted_among r xs h = let s = split_at r xs h in (s.front, s.back, s.split_is)

-- a count of 1 at most: beside one r stands no other
alone : (r : ℕ) (whole xs ys : List ℕ) → tally (is r) whole ≤ 1 → whole ≡ xs ++ (r ∷ ys) → (¬ Among r xs) × (¬ Among r ys)
alone r whole xs ys h e = (λ a. omega (arith, sum, is_own r, among_counted r xs a), λ a. omega (arith, sum, is_own r, among_counted r ys a))
  where
    sum : tally (is r) xs + (is r r + tally (is r) ys) ≤ 1
    sum = omega (arith, h, ap (tally (is r)) e, tally_append (is r) xs (r ∷ ys))

module _ (E : Engine) (size count : ℕ) where
  pub pile_distinct : (l : Ledger E.Index) → WellFormed E size count l → (xs ys : List ℕ) (r : ℕ) → l.pile ≡ xs ++ (r ∷ ys)
      → (¬ Among r xs) × (¬ Among r ys)
  pile_distinct l w xs ys r e = alone r l.pile xs ys (omega (arith, w.lined.once r, one_most (ltb r count))) e

  pub pile_below : (l : Ledger E.Index) → WellFormed E size count l → (r : ℕ) → Among r l.pile → r < count
  pile_below l w r a = one_below r count (omega (arith, w.lined.once r, among_counted r l.pile a))

  pub line_distinct : (l : Ledger E.Index) → WellFormed E size count l → (xs ys zs : List Region) (x y : Region)
      → l.line ≡ xs ++ (x ∷ (ys ++ (y ∷ zs))) → rec x ≢ rec y
  line_distinct l w xs ys zs x y e h = omega (
    arith,
    once_in_line w.lined (rec y),
    ap (tally (has (rec y))) e,
    tally_append (has (rec y)) xs (x ∷ (ys ++ (y ∷ zs))),
    tally_append (has (rec y)) ys (y ∷ zs),
    has_own x (rec y) h,
    has_own y (rec y) refl,
  )

  pub spare_has_none : (l : Ledger E.Index) → WellFormed E size count l → (r : ℕ) → Among r l.pile
      → (x : Region) (o : ℕ) → At x o l.line → rec x ≢ r
  spare_has_none l w r a x o there e =
      omega (arith, w.lined.once r, one_most (ltb r count), among_counted r l.pile a, at_counted there r e)

  pub none_lost : (l : Ledger E.Index) → WellFormed E size count l → (r : ℕ) → r < count
      → Among r l.pile ⊎ ((x : Region) × (o : ℕ) × At x o l.line × (rec x ≡ r))
  none_lost l w r h = go (found? r l.line)
    where
      counted : one (ltb r count) ≡ 1
      counted = elim (below? r count) [ below k e ↦ ap one e | beyond k e ↦ absurd (omega arith) ]

      go : Found r [] l.line → Among r l.pile ⊎ ((x : Region) × (o : ℕ) × At x o l.line × (rec x ≡ r))
      go (missing m z) = inl (counted_among r l.pile (omega (arith, w.lined.once r, counted)))
      go (at before x after m b e z) = inr (x, _, between_at b, e)

-- ---- the stacks
module _ (size count : ℕ) where
  pub stack_holds : (l : Ledger Stacks) → WellFormed by_class size count l → (c r : ℕ)
      → Among r (l.index c) ↔ ((n : ℕ) × (o : ℕ) × At (free n r) o l.line × (down n ≡ c))
  stack_holds l w c r = (
    λ a. let t = standing c r l.line (omega (arith, w.kept.exactly c r, among_counted r (l.index c) a)) in
        (t.n, t.o, t.there, t.class_is),
    λ x. counted_among r (l.index c) (omega (
      arith,
      w.kept.exactly c r,
      at_weighs x.2 (stands c r),
      stands_own x.0 r,
      ap (λ d. stands d r (free x.0 r)) x.3,
    )),
  )

  pub stack_distinct : (l : Ledger Stacks) → WellFormed by_class size count l → (c : ℕ) (xs ys : List ℕ) (r : ℕ)
      → l.index c ≡ xs ++ (r ∷ ys) → (¬ Among r xs) × (¬ Among r ys)
  stack_distinct l w c xs ys r e = alone r (l.index c) xs ys (omega (
    arith,
    w.kept.exactly c r,
    tally_le (stands c r) (has r) (stands_le c r) l.line,
    once_in_line w.lined r,
  )) e
