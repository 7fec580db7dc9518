-- By whether it holds nothing. Assumes nothing.
use native.Mathlib.Omega.{arith}
use borrow.Author.Tests.{eq-eqb, ne_eqb}
use Rattle.telling.proofs.told.count_one.Goals as goal

pub returns-then-count-eq0 : goal.returns-then-count-eq0
returns-then-count-eq0 c = (omega arith, rw (eq-eqb _ _ c.if-count-eq0.true) (omega arith))

pub returns-else-count-eq0 : goal.returns-else-count-eq0
returns-else-count-eq0 c = (omega arith, rw (ne_eqb _ _ c.if-count-eq0.false))
