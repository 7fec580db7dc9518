-- What the question by value promises of the head that was made. Assumes nothing.
use Rattle.ledger.specs.Calls.{asks_size}
use Rattle.host_values.proofs.Kept.{call_moved}
use Rattle.host_by_value.proofs.questions.ds_by_value_size_of.Goals as goal

pub returns : goal.returns
returns c =
    record { given = _; promised = call_moved (c.of_arrays-head.ensures _ _) (c.of_arrays-head.ensures _ _) c.allocation_size.ensures; told = c.of_answer.ensures (asks_size c.args.offset c.args.handle) }
