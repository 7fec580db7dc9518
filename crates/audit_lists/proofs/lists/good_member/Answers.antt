-- By the tests that the model makes too. What a test has found is a fact on numbers, so that a test which finds less fails at that fact.
-- Assumes nothing.
use mathlib.Core.Path.{◌≡◌}
use mathlib.Core.Logic.{◌≢◌}
use mathlib.Core.Bool.{and-false}
use native.Mathlib.Omega.{arith}
use borrow.Author.Tests.{lt-ltb, le-ltb, eq-eqb, ne_eqb}
use Rattle.audit_words.specs.Lists.{good_member}
use Rattle.audit_lists.proofs.lists.good_member.Goals as goal

pub returns-then-t-r : goal.returns-then-t-r
unfolding good_member
returns-then-t-r c = rw (le-ltb _ _ c.if-t-r.true)

pub returns-then-marked-ne0 : goal.returns-then-marked-ne0
unfolding good_member
returns-then-marked-ne0 c = rw (← c.marked.ensures, ne_eqb _ _ c.if-marked-ne0.true, and-false)

pub returns-then-word-prev : goal.returns-then-word-prev
unfolding good_member
returns-then-word-prev c =
    let astray : c.word.result ≢ c.args.m.prev = omega (arith, c.if-word-prev.true) in
    rw (← c.word.ensures, ne_eqb _ _ astray, and-false)

pub returns-then-word-ne0 : goal.returns-then-word-ne0
unfolding good_member
returns-then-word-ne0 c = rw (← c.word-2.ensures, ne_eqb _ _ c.if-word-ne0.true, and-false)

pub returns : goal.returns
unfolding good_member
returns c =
    let joined : c.word.result ≡ c.args.m.prev = omega arith in
    rw (
      lt-ltb _ _ c.if-t-r.false,
      ← c.marked.ensures,
      eq-eqb _ _ c.if-marked-ne0.false,
      ← c.word.ensures,
      eq-eqb _ _ joined,
      ← c.word-2.ensures,
      eq-eqb _ _ c.if-word-ne0.false,
      ← c.word-3.ensures,
      c.uint_to_float_round_down-class.ensures,
    )
