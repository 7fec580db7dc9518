-- The tests are those of `plan_spare`. Assumes nothing.
use borrow.Author.Tests.{lt-ltb, le-ltb}
use Rattle.tables.specs.Take.{plan_spare}
use Rattle.take_plan.proofs.plan_spare.Goals as goal

pub returns-then-t-top : goal.returns-then-t-top
unfolding plan_spare
returns-then-t-top c = rw (le-ltb _ _ c.if-t-top.true)

pub returns-then-t-m : goal.returns-then-t-m
unfolding plan_spare
returns-then-t-m c =
    rw (lt-ltb _ _ c.if-t-top.false, ← c.spare-m.ensures, le-ltb _ _ c.if-t-m.true)

pub returns : goal.returns
unfolding plan_spare
returns c =
    rw (lt-ltb _ _ c.if-t-top.false, ← c.spare-m.ensures, lt-ltb _ _ c.if-t-m.false)
