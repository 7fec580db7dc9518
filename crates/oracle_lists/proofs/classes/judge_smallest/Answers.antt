-- The port's answer says whether the size has a class. Assumes nothing.
use Rattle.std.specs.Prelude.{Result, Ok, Err}
use Rattle.small_float.specs.declared.ext.TooLarge.{TooLarge}
use Prim.Native.Nat.{ℕ}
use mathlib.Core.Path.{◌≡◌, ◌∙◌, sym, subst}
use mathlib.Core.Bool.{cond}
use native.Mathlib.Omega.{arith}
use lib.Dec.{eqb}
use borrow.Author.Tests.{lt-ltb, le-ltb, eq-eqb, ne_eqb}
use Rattle.small_float.specs.declared.Size.{Size}
use Rattle.small_float.specs.Class.{greatest_served, rounded_up}
use Rattle.small_float.specs.Smallest.{SmallestStore}
use Rattle.small_float.proofs.Rounding.{to_class, to_none, rounded?}
use Rattle.oracle_lists.specs.declared.tally.Verdict.TheVariants.{Agrees, Listed, Differs}
use Rattle.oracle_lists.specs.Verdicts.{served_verdict}
use Rattle.oracle_lists.proofs.classes.judge_smallest.Goals as goal

module _ (size smallest : ℕ) {answer : Result Size TooLarge} (right : SmallestStore size answer) where
  served : (store : Size) → answer ≡ Ok store → served_verdict (rounded_up size) smallest ≡ cond (eqb store.0 smallest) Agrees Differs
  unfolding served_verdict
  served store is =
      let shown : SmallestStore size (Ok store) = subst (λ (a : Result Size TooLarge). SmallestStore size a) is right in
      elim (rounded? size) [
        | to_class low in_use e ↦ let same = rw e at shown.figure in rw (e, same)
        | to_none high past e ↦ let never : ◌≡◌ {A = ℕ} 0 7 = rw (lt-ltb greatest_served size high) at shown.number in absurd (omega arith)
      ]

  refused : {why : TooLarge} → answer ≡ Err why → served_verdict (rounded_up size) smallest ≡ cond (eqb smallest 0) Listed Differs
  unfolding served_verdict
  refused {why = why} is =
      let shown : SmallestStore size (Err why) = subst (λ (a : Result Size TooLarge). SmallestStore size a) is right in
      elim (rounded? size) [
        | to_class low in_use e ↦ let never : ◌≡◌ {A = ℕ} 7 0 = rw (le-ltb greatest_served size low) at shown.number in absurd (omega arith)
        | to_none high past e ↦ rw e
      ]

pub returns-in-Ok : goal.returns-in-Ok
returns-in-Ok c = c.from.ensures ∙ sym (served c.args.size _ c.min_allocator_size.ensures _ c.in-Ok.is)

pub returns-then-smallest-eq0 : goal.returns-then-smallest-eq0
returns-then-smallest-eq0 c =
    rw (refused c.args.size _ c.min_allocator_size.ensures c.in-Err.is, eq-eqb _ _ c.if-smallest-eq0.true)

pub returns-else-smallest-eq0 : goal.returns-else-smallest-eq0
returns-else-smallest-eq0 c =
    rw (refused c.args.size _ c.min_allocator_size.ensures c.in-Err.is, ne_eqb _ _ c.if-smallest-eq0.false)
