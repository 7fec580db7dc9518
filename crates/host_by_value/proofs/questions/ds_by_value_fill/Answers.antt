-- What the question by value promises of the head that was made. Assumes nothing.
use Rattle.ledger.specs.Calls.{Ask, Fill}
use Rattle.host_values.proofs.Kept.{call_moved}
use Rattle.host_by_value.proofs.questions.ds_by_value_fill.Goals as goal

pub returns : goal.returns
returns c =
    record { given = _; promised = call_moved (c.of_arrays-head.ensures _ _) (c.of_arrays-head.ensures _ _) c.fill.ensures; told = c.of_answer.ensures (Ask Fill) }
