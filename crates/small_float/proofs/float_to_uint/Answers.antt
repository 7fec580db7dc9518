-- Below class 496 the shift loses nothing in 64 bits; from there on 64 bits do not hold the value. Assumes nothing.
use mathlib.Core.Path.{sym, ◌∙◌}
use native.Mathlib.Omega.{arith}
use Rattle.small_float.proofs.Values.{shifted_whole, held_in_64, beyond_64}
use Rattle.small_float.proofs.float_to_uint.Goals as goal

pub returns-then-c-ge-CLASSES_IN_64_BITS : goal.returns-then-c-ge-CLASSES_IN_64_BITS
returns-then-c-ge-CLASSES_IN_64_BITS c = sym (beyond_64 _ (omega (arith, c.if-c-ge-CLASSES_IN_64_BITS.true)))

pub returns : goal.returns
returns c =
    shifted_whole 64 _ _ _ c.steps_of-steps.ensures.value c.steps_of-steps.ensures.bits.0 (omega (arith, c.if-c-ge-CLASSES_IN_64_BITS.false, c.steps_of-steps.ensures.bits.1)) ∙ sym (held_in_64 _ (omega (arith, c.if-c-ge-CLASSES_IN_64_BITS.false)))
