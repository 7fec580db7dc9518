-- By the test that the model makes too. Assumes nothing.
use mathlib.Core.Path.{refl}
use borrow.Author.Tests.{eq-eqb, ne_eqb}
use Rattle.audit_words.specs.Bits.{head_bit}
use native.Mathlib.Omega.{arith}
use Rattle.audit_lists.proofs.bits.head_bit.Goals as goal

pub returns-then-head-eq-NONE : goal.returns-then-head-eq-NONE
unfolding head_bit
returns-then-head-eq-NONE c = rw (eq-eqb _ _ c.if-head-eq-NONE.true) (refl, omega arith)

pub returns : goal.returns
unfolding head_bit
returns c = rw (ne_eqb _ _ c.if-head-eq-NONE.false) (refl, omega arith)
