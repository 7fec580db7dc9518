-- A run of records that begins with an absent link, links agreeing both ways, meets no record twice: two places of one record would have
-- the same before them, back to the absent link, which only the first has before it. So the audit needs no marks to know it.
-- Assumes nothing.
use mathlib.Core.Path.{◌≡◌, refl, ap, sym, ◌∙◌}
use mathlib.Core.Logic.{◌≢◌}
use mathlib.Core.List.{List, [], ◌∷◌, ◌++◌, append-nil}
use Prim.Native.Nat.{ℕ, zero, suc}
use native.Mathlib.Omega.{arith}
use lib.ListN.{length}
use lib.Seq.{append_snoc}
use Rattle.basics.specs.Sum.{is, tally}
use Rattle.basics.proofs.Sums.{tally_append}
use Rattle.basics.proofs.Counts.{In, Distinct, hit, miss, match?, split_at}
use Rattle.tables.specs.Linked.{Linked}
use Rattle.tables.proofs.Linked.{last, last_append, no_last, has_last, last?, linked_split}

module _ (next prev : ℕ → ℕ) (none : ℕ) where
  -- a record met again
  twice : (front back further : List ℕ) (x y : ℕ) → Distinct (front ++ x ∷ back)
      → ((q : ℕ) → In q (front ++ x ∷ back) → q ≢ none)
      → Linked next prev none ((front ++ x ∷ back) ++ x ∷ further) y → ⊥
  twice front back further x y distinct some k = elim (last? none (x ∷ back)) [
    | no_last n f ↦ absurd (omega (arith, ap (length {A = ℕ}) n))
    | has_last n before-again ↦ elim (last? none front) [
      | no_last m g ↦ some (last x back) (omega (arith, tally_append (is (last x back)) front (x ∷ back))) (sym same_before ∙ g)
      | has_last m before ↦ omega (
        arith,
        distinct (last x back),
        tally_append (is (last x back)) front (x ∷ back),
        rw same_before at before,
      )
    ]
  ]
    where
      parts : Linked next prev none (front ++ x ∷ back) x × Linked next prev (last none (front ++ x ∷ back)) (x ∷ further) y
      parts = linked_split next prev none (front ++ x ∷ back) (x ∷ further) y k

      first_time : Linked next prev none front x × Linked next prev (last none front) (x ∷ back) x
      first_time = linked_split next prev none front (x ∷ back) x parts.0

      same_before : last none front ≡ last x back
      same_before = sym first_time.1.0 ∙ parts.1.0 ∙ last_append none front (x ∷ back)

  -- record by record, `met` having no repeats
  distinct_from : (rest met : List ℕ) (y : ℕ) → Distinct met → ((q : ℕ) → In q (met ++ rest) → q ≢ none)
      → Linked next prev none (met ++ rest) y → Distinct (met ++ rest)
  distinct_from [] met y distinct some k = rw append-nil distinct
  distinct_from (x ∷ rest) met y distinct some k = rw (← (append_snoc met x rest))
      (distinct_from rest (met ++ x ∷ []) y still (rw (append_snoc met x rest) some) (rw (append_snoc met x rest) k))
    where
      not_met : (n : ℕ) → tally (is x) met ≡ n → tally (is x) met ≡ 0
      not_met zero e = e
      not_met (suc n) e =
          let s = split_at x met (omega arith) in
          absurd (twice s.front s.back rest x y (rw s.split_is at distinct)
          (λ q m. some q (omega (arith, tally_append (is q) met (x ∷ rest), rw (← s.split_is) at m)))
          (rw s.split_is at k))

      still : Distinct (met ++ x ∷ [])
      still q = elim (match? q x) [
        | hit e o ↦ omega (arith, tally_append (is q) met (x ∷ []), ap (λ (s : ℕ). tally (is s) met) e, not_met (tally (is x) met) refl)
        | miss d o ↦ omega (arith, tally_append (is q) met (x ∷ []), distinct q)
      ]

  pub linked_distinct : (xs : List ℕ) (y : ℕ) → ((q : ℕ) → In q xs → q ≢ none) → Linked next prev none xs y → Distinct xs
  linked_distinct xs y some k = distinct_from xs [] y (λ q. omega arith) some k
