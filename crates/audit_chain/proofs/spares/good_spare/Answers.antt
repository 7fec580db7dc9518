-- By the tests that the model makes too. What a test has found is a fact on numbers, so that a test which finds less fails at that fact.
-- Assumes nothing.
use mathlib.Core.Path.{◌≡◌}
use mathlib.Core.Logic.{◌≢◌}
use mathlib.Core.Bool.{and-false}
use native.Mathlib.Omega.{arith}
use borrow.Author.Tests.{lt-ltb, le-ltb, eq-eqb, ne_eqb}
use Rattle.audit_words.specs.Spares.{good_spare}
use borrow.Author.Rules.{rules}
use Rattle.audit_chain.proofs.spares.good_spare.Goals as goal

pub returns-then-max_allocs-r : goal.returns-then-max_allocs-r
unfolding good_spare
returns-then-max_allocs-r c = rw (le-ltb _ _ c.if-max_allocs-r.true)

pub returns-then-marked-ne0 : goal.returns-then-marked-ne0
unfolding good_spare
returns-then-marked-ne0 c =
    let met-before : c.marked.result ≢ 0 = omega (arith, c.if-marked-ne0.true) in
    rw (← c.marked.ensures, ne_eqb _ _ met-before, and-false)

pub returns : goal.returns
unfolding good_spare
returns c =
    let not_met : c.marked.result ≡ 0 = omega (arith, c.if-marked-ne0.false) in
    rw (lt-ltb _ _ c.if-max_allocs-r.false, ← c.marked.ensures, eq-eqb _ _ not_met, c.word.ensures)
