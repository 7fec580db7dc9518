-- The front, and the fields behind it. Assumes nothing.
use mathlib.Core.List.{List, ◌++◌}
use Prim.Native.Nat.{ℕ}
use Rattle.journal.specs.Bytes.{in_bytes}
use Rattle.journal.proofs.Numbers.{front_length, with_field_length}
use Rattle.journal.proofs.Stores.{then_stored}
use Rattle.journal.proofs.writing.put_two.Goals as goal

pub returns : goal.returns
returns c =
    let kinds : List ℕ = in_bytes 2 10 ++ in_bytes 2 c.args.kind in
    let begun =
    then_stored kinds (in_bytes 4 c.args.first) _ _ _ c.args.at 4 (front_length 10 c.args.kind) c.put_front.ensures c.put32.ensures in
    then_stored (kinds ++ in_bytes 4 c.args.first) (in_bytes 4 c.args.second) _ _ _ c.args.at 8
    (with_field_length 10 c.args.kind c.args.first) begun c.put32-2.ensures
