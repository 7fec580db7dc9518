-- Below class 240 the shift loses nothing in 32 bits. Assumes nothing.
use native.Mathlib.Omega.{arith}
use Rattle.small_float.proofs.Values.{shifted_whole}
use Rattle.small_float.proofs.size_of_class.Goals as goal

pub returns : goal.returns
returns c =
    shifted_whole 32 _ _ _ c.steps_of-steps.ensures.value c.steps_of-steps.ensures.bits.0 (omega (arith, c.requires, c.steps_of-steps.ensures.bits.1))
