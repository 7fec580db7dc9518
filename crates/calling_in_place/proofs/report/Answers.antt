-- The answer is told as it was given. Assumes nothing.
use Rattle.telling.proofs.Promised.{told_so}
use Rattle.calling_in_place.proofs.report.Goals as goal

pub returns : goal.returns
returns c = told_so c.of_answer.ensures c.storage_report-given.ensures.exact
