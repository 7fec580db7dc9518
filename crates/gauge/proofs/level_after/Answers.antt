-- The literal 0.125 is an eighth, and the operations are the library's. Assumes nothing.
use mathlib.Core.Path.{◌≡◌, refl, ap}
use lib.IntN.{pos}
use lib.Ieee as ieee
use lib.Ieee.{Float, binary32}
use Rattle.gauge.specs.Rule.{level_after, eighth}
use Rattle.gauge.proofs.level_after.Goals as goal

eighth_is : ieee.of_bits binary32 1040187392 ≡ eighth
unfolding ieee.of_bits
eighth_is = refl

pub returns : goal.returns
unfolding level_after
returns c =
    let away = ieee.sub binary32 (ieee.of_int binary32 (pos c.args.fill)) c.args.level in
    ap (λ (x : Float). ieee.add binary32 c.args.level (ieee.mul binary32 away x)) eighth_is
