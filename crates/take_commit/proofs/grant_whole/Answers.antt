-- The commit of `whole`. Assumes nothing.
use Prim.Native.Nat.{◌-◌}
use mathlib.Core.Path.{ap}
use Rattle.tables.specs.Words.{Words, with_total}
use Rattle.take_commit.proofs.grant_whole.Goals as goal

pub returns : goal.returns
returns c ps =
    rw c.with_free_storage.ensures
    (ap (λ (v : Words). with_total v (c.args.t.free_storage - c.args.size.0)) (c.make_live-u.ensures ps))
