-- The answer is told as it was given. Assumes nothing.
use Rattle.telling.specs.Told.{class_in}
use Rattle.telling.proofs.Promised.{asked_so}
use Rattle.calling_in_place.proofs.class_of.Goals as goal

pub returns : goal.returns
returns c =
    asked_so (class_in c.args.class) c.of_class.ensures c.storage_report_full-full.ensures.exact.exact
