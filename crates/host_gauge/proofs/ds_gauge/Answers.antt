-- What the reading in place promises of the scalars that were read. Assumes nothing.
use mathlib.Core.Path.{ap}
use Rattle.records.specs.declared.totals.Totals.{Totals}
use Rattle.records.specs.InWords.{words_of}
use Rattle.host_gauge.proofs.Moved.{read_moved}
use Rattle.host_gauge.proofs.ds_gauge.Goals as goal

pub returns : goal.returns
returns c =
    let words = ap (λ (t : Totals). words_of t c.args.bins.now c.args.leaves.now c.args.nodes.now c.args.pile.now) c.of_array-t.ensures in
    record { given = _; promised = read_moved words c.of_host-came.ensures c.read_gauge-taken.ensures; told = c.flat.ensures }
