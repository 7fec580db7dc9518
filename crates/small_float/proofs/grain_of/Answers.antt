-- The leading zeros of a size with bit 3 set and its grain make 28. Assumes nothing.
use native.Mathlib.Omega.{arith}
use Rattle.small_float.proofs.Straight.{grain_counted}
use Rattle.small_float.proofs.grain_of.Goals as goal

pub overflow_sub-result-2 : goal.overflow_sub-result-2
overflow_sub-result-2 c = omega (arith, grain_counted c.args.size (omega arith))

pub returns : goal.returns
returns c = let counted = grain_counted c.args.size (omega arith) in (omega (arith, counted), omega (arith, counted))
