-- The literal 0.0 is +0. Assumes nothing.
use mathlib.Core.Path.{refl}
use lib.Ieee as ieee
use Rattle.gauge.proofs.Watch.begun.Goals as goal

pub returns : goal.returns
unfolding ieee.of_bits
returns c = refl
