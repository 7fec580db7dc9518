-- By the tests that the model makes too. Assumes nothing.
use mathlib.Core.Path.{◌≡◌}
use mathlib.Core.Logic.{◌≢◌}
use Prim.Native.Nat.{◌+◌}
use borrow.Author.Tests.{eq-eqb, ne_eqb}
use Rattle.audit_words.specs.Chain.{walk_ends}
use native.Mathlib.Omega.{arith}
use borrow.Author.Rules.{rules}
use Rattle.audit_chain.proofs.chain.walk_ends.Goals as goal

pub returns-then-w-ne-NONE : goal.returns-then-w-ne-NONE
unfolding walk_ends
returns-then-w-ne-NONE c = rw (ne_eqb _ _ c.if-w-ne-NONE.true)

pub returns-then-w-t : goal.returns-then-w-t
unfolding walk_ends
returns-then-w-t c = rw (eq-eqb _ _ c.if-w-ne-NONE.false, ne_eqb _ _ c.if-w-t.true)

pub returns-then-w-spares : goal.returns-then-w-spares
unfolding walk_ends
returns-then-w-spares c =
    let lost : c.args.w.records + (c.args.t.free_offset + 1) ≢ c.args.t.max_allocs = omega (arith, c.if-w-spares.true) in
    rw (eq-eqb _ _ c.if-w-ne-NONE.false, eq-eqb _ _ c.if-w-t.false, ne_eqb _ _ lost)

pub returns : goal.returns
unfolding walk_ends
returns c =
    let all : c.args.w.records + (c.args.t.free_offset + 1) ≡ c.args.t.max_allocs = omega (arith, c.if-w-spares.false) in
    rw (eq-eqb _ _ c.if-w-ne-NONE.false, eq-eqb _ _ c.if-w-t.false, eq-eqb _ _ all)
