-- A size has 32 bits, so its class is below 256. Assumes nothing.
use Rattle.small_float.proofs.Rounding.{down_most}
use native.Mathlib.Omega.{arith}
use Rattle.bins.proofs.class.of_number.Goals as goal

pub returns : goal.returns
returns c =
    (c.uint_to_float_round_down.ensures, omega (arith, c.uint_to_float_round_down.ensures, down_most _ c.ranges.size.fits))
