-- The quotient is at most 256, and a size of 0 is none to divide by. Assumes nothing.
use native.Mathlib.Omega.{arith}
use borrow.Author.Tests.{eq-eqb, ne_eqb}
use Rattle.ledger.specs.Fill.{fill_of}
use Rattle.ledger.proofs.Fills.{parts_most}
use Rattle.asking.proofs.fullness.part_filled.Goals as goal

pub returns-then-size-eq0 : goal.returns-then-size-eq0
unfolding fill_of
returns-then-size-eq0 c = rw (eq-eqb _ _ c.if-size-eq0.true)

pub overflow_cast-result-3 : goal.overflow_cast-result-3
overflow_cast-result-3 c = omega (arith, parts_most c.args.live c.args.size c.requires)

pub returns : goal.returns
unfolding fill_of
returns c = rw (ne_eqb _ _ c.if-size-eq0.false)
