-- What the question by value promises of the head that was made. Assumes nothing.
use Rattle.ledger.specs.Calls.{Ask, Report}
use Rattle.host_values.proofs.Kept.{call_moved}
use Rattle.host_by_value.proofs.questions.ds_by_value_report.Goals as goal

pub returns : goal.returns
returns c =
    record { given = _; promised = call_moved (c.of_arrays-head.ensures _ _) (c.of_arrays-head.ensures _ _) c.storage_report.ensures; told = c.of_answer.ensures (Ask Report) }
