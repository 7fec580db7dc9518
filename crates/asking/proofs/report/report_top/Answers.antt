-- The code is `report_top`. Assumes nothing.
use Rattle.tables.specs.Questions.{report_class, report_leaf, report_top}
use Rattle.asking.proofs.report.report_top.Goals as goal

pub returns : goal.returns
unfolding report_top report_leaf report_class
returns c = rw (c.report_leaf.ensures, c.from.ensures)
