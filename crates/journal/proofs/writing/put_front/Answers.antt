-- Two stores, one behind the other. Assumes nothing.
use Rattle.journal.specs.Bytes.{in_bytes}
use Rattle.journal.proofs.Numbers.{in_bytes_length}
use Rattle.journal.proofs.Stores.{then_stored}
use Rattle.journal.proofs.writing.put_front.Goals as goal

pub returns : goal.returns
returns c =
    then_stored (in_bytes 2 c.args.len) (in_bytes 2 c.args.kind) _ _ _ c.args.at 2 (in_bytes_length 2 c.args.len)
    c.put16.ensures c.put16-2.ensures
