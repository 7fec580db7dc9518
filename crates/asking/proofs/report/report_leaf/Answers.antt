-- The code is `report_leaf`. Assumes nothing.
use borrow.Author.Tests.{eq-eqb, ne_eqb}
use Rattle.tables.specs.Questions.{report_class, report_leaf}
use Rattle.asking.proofs.report.report_leaf.Goals as goal

pub returns-then-m-eq0 : goal.returns-then-m-eq0
unfolding report_leaf
returns-then-m-eq0 c = rw (eq-eqb _ _ c.if-m-eq0.true)

pub returns : goal.returns
unfolding report_leaf report_class
returns c = rw (c.report_class.ensures, c.highest_bit_set.ensures.0, ne_eqb _ _ c.if-m-eq0.false)
