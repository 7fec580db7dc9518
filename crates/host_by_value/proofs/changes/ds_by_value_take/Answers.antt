-- What the take by value promises, with its head in the arrays. Assumes nothing.
use Rattle.ledger.specs.Calls.{takes}
use Rattle.host_values.proofs.Kept.{call_moved}
use Rattle.host_by_value.proofs.changes.ds_by_value_take.Goals as goal

pub returns : goal.returns
returns c =
    record {
      given = _;
      promised = call_moved (c.of_arrays-found.ensures _ _) (c.keep.ensures _ _) c.allocate-taken.ensures;
      told = c.of_answer.ensures (takes c.args.size);
    }
