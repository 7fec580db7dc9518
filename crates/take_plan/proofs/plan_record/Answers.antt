-- The code is `plan_record`. Assumes nothing.
use borrow.Author.Tests.{lt-ltb, le-ltb}
use Rattle.tables.specs.Take.{plan_spare, plan_region, plan_record}
use Rattle.take_plan.proofs.plan_record.Goals as goal

pub returns-then-t-r : goal.returns-then-t-r
unfolding plan_record
returns-then-t-r c = rw (le-ltb _ _ c.if-t-r.true)

pub returns : goal.returns
unfolding plan_record plan_region plan_spare
returns c =
    rw (c.plan_region.ensures, c.word-offset.ensures, c.word.ensures, lt-ltb _ _ c.if-t-r.false)
