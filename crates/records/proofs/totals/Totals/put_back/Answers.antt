-- The three stores, in an array whose length its type says. Assumes nothing.
use mathlib.Core.Path.{◌≡◌}
use native.Mathlib.Omega.{arith}
use lib.ListN.{length}
use Rattle.records.proofs.Arrays.{stored}
use Rattle.records.proofs.totals.Totals.put_back.Goals as goal

pub returns : goal.returns
returns c =
    let five : length c.args.scalars.now ≡ 5 = omega arith in
    stored c.args.self c.args.scalars.now five
