-- What the call in place promises of the scalars that were read, put back. Assumes nothing.
use Rattle.lending.proofs.PutBack.{is_put_back}
use Rattle.lending.proofs.allocate.Goals as goal

pub returns : goal.returns
returns c =
    is_put_back c.args.scalars.now _ _ _ _ _ _ _ _ _ c.of_array-t.ensures c.put_back.ensures c.allocate-taken.ensures
