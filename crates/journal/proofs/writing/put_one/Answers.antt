-- The front, and the field behind it. Assumes nothing.
use mathlib.Core.List.{◌++◌}
use Rattle.journal.specs.Bytes.{in_bytes}
use Rattle.journal.proofs.Numbers.{front_length}
use Rattle.journal.proofs.Stores.{then_stored}
use Rattle.journal.proofs.writing.put_one.Goals as goal

pub returns : goal.returns
returns c =
    then_stored (in_bytes 2 6 ++ in_bytes 2 c.args.kind) (in_bytes 4 c.args.field) _ _ _ c.args.at 4 (front_length 6 c.args.kind)
    c.put_front.ensures c.put32.ensures
