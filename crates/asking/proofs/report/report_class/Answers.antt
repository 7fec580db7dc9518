-- The class is one that a region can have, so its value is a size. Assumes nothing.
use borrow.Author.Tests.{lt-ltb, le-ltb}
use Rattle.tables.specs.Questions.{report_class}
use Rattle.asking.proofs.report.report_class.Goals as goal

pub returns-then-c-lt-CLASSES_IN_USE : goal.returns-then-c-lt-CLASSES_IN_USE
unfolding report_class
returns-then-c-lt-CLASSES_IN_USE c =
    rw (c.figures.ensures, c.size_of_class.ensures, lt-ltb _ _ c.if-c-lt-CLASSES_IN_USE.true)

pub returns : goal.returns
unfolding report_class
returns c = rw (le-ltb _ _ c.if-c-lt-CLASSES_IN_USE.false)
