-- 3 where none is spare, otherwise 4. Assumes nothing.
use borrow.Author.Tests.{eq-eqb, ne_eqb}
use Rattle.take_plan.proofs.without_class.Goals as goal

pub returns-then-free_offset-eq0 : goal.returns-then-free_offset-eq0
returns-then-free_offset-eq0 c = rw (eq-eqb _ _ c.if-free_offset-eq0.true)

pub returns : goal.returns
returns c = rw (ne_eqb _ _ c.if-free_offset-eq0.false)
