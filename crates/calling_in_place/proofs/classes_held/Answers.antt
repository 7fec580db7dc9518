-- The answer is told as it was given. Assumes nothing.
use Rattle.telling.specs.Told.{held_in}
use Rattle.telling.proofs.Promised.{asked_so}
use Rattle.calling_in_place.proofs.classes_held.Goals as goal

pub returns : goal.returns
returns c = asked_so held_in c.of_classes.ensures c.storage_report_full-full.ensures.exact.exact
