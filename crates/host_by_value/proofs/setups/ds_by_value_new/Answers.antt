-- What the setup by value promises, with its head in the arrays. Assumes nothing.
use Rattle.host_values.proofs.Kept.{setup_moved}
use Rattle.host_by_value.proofs.setups.ds_by_value_new.Goals as goal

pub returns : goal.returns
returns c =
    record { given = _; promised = setup_moved (c.keep.ensures _ _) c.new-started.ensures; told = c.number.ensures }
