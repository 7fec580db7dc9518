-- By the test that the model makes too. Assumes nothing.
use mathlib.Core.Bool.{and-true}
use borrow.Author.Tests.{eq-eqb, ne_eqb}
use Rattle.audit_words.specs.Chain.{good_used}
use Rattle.audit_chain.proofs.chain.good_used.Goals as goal

pub returns-then-this-eq0 : goal.returns-then-this-eq0
unfolding good_used
returns-then-this-eq0 c = rw (eq-eqb _ _ c.if-this-eq0.true)

pub returns : goal.returns
unfolding good_used
returns c = rw (ne_eqb _ _ c.if-this-eq0.false, and-true)
