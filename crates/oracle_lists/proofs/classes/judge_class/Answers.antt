-- Up to class 263 the port gives the value itself. Assumes nothing.
use Prim.Native.Nat.{ℕ, ◌-◌, ◌%◌, ◌^◌, ◌≤◌, ◌<◌, min}
use mathlib.Core.Path.{◌≡◌, ◌∙◌}
use mathlib.Core.Logic.{◌≢◌}
use native.Mathlib.Omega.{arith}
use borrow.Author.Tests.{lt-ltb, le-ltb, eq-eqb, ne_eqb}
use Rattle.small_float.specs.Class.{value}
use Rattle.small_float.proofs.Values.{held_in_64}
use Rattle.oracle_lists.specs.declared.tally.Verdict.TheVariants.{Agrees, Listed, Differs}
use Rattle.oracle_lists.specs.Verdicts.{class_verdict}
use Rattle.oracle_lists.proofs.classes.judge_class.Goals as goal

-- the port's value, where it is compared
module _ (c port v : ℕ) {in-list : ℕ} (e : port ≡ min (value c) (2 ^ 64 - 1)) (l : in-list ≡ v) (h : c ≤ 263) where
  is-value : port ≡ value c
  is-value = e ∙ held_in_64 c (omega arith)

  agrees : port ≡ in-list → Agrees ≡ class_verdict c v
  unfolding class_verdict
  agrees p = rw (le-ltb 263 c h, ← is-value, ← l, eq-eqb _ _ p)

  listed : port ≢ in-list → port % 2 ^ 32 ≡ in-list → Listed ≡ class_verdict c v
  unfolding class_verdict
  listed n p = rw (le-ltb 263 c h, ← is-value, ← l, ne_eqb _ _ n, eq-eqb _ _ p)

  differs : port ≢ in-list → port % 2 ^ 32 ≢ in-list → Differs ≡ class_verdict c v
  unfolding class_verdict
  differs n p = rw (le-ltb 263 c h, ← is-value, ← l, ne_eqb _ _ n, ne_eqb _ _ p)

beyond : (c v : ℕ) → 263 < c → Differs ≡ class_verdict c v
unfolding class_verdict
beyond c v h = rw (lt-ltb 263 c h)

pub returns-then-class-gt-LAST_CLASS : goal.returns-then-class-gt-LAST_CLASS
returns-then-class-gt-LAST_CLASS c = beyond _ _ (omega (arith, c.if-class-gt-LAST_CLASS.true))

pub returns-then-port-in_list : goal.returns-then-port-in_list
returns-then-port-in_list c =
    agrees _ _ _ c.float_to_uint-port.ensures c.from-in_list.ensures (omega (arith, c.if-class-gt-LAST_CLASS.false)) c.if-port-in_list.true

pub returns-then-port-in_list-2 : goal.returns-then-port-in_list-2
returns-then-port-in_list-2 c =
    listed _ _ _ c.float_to_uint-port.ensures c.from-in_list.ensures (omega (arith, c.if-class-gt-LAST_CLASS.false)) c.if-port-in_list.false c.if-port-in_list-2.true

pub returns : goal.returns
returns c =
    differs _ _ _ c.float_to_uint-port.ensures c.from-in_list.ensures (omega (arith, c.if-class-gt-LAST_CLASS.false)) c.if-port-in_list.false c.if-port-in_list-2.false
