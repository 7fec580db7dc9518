-- What the reading by value promises of the head that was made. Assumes nothing.
use Rattle.host_gauge.proofs.Moved.{read_moved}
use Rattle.host_gauge.proofs.ds_by_value_gauge.Goals as goal

pub returns : goal.returns
returns c =
    record {
      given = _;
      promised = read_moved (c.of_arrays-head.ensures _ _) c.of_host-came.ensures c.read_gauge_of-taken.ensures;
      told = c.flat.ensures;
    }
