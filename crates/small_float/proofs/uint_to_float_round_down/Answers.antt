-- The code's sum is `down` for every size. Assumes nothing.
use mathlib.Core.Path.{sym}
use native.Mathlib.Omega.{arith}
use Rattle.small_float.proofs.Straight.{straight, few_steps}
use Rattle.small_float.proofs.uint_to_float_round_down.Goals as goal

pub overflow_add-result : goal.overflow_add-result
overflow_add-result c =
    omega (arith, c.grain_of-g.ensures.1, few_steps c.args.size.0 c.grain_of-g.result c.args.size.0 c.grain_of-g.ensures.0 (omega arith))

pub returns : goal.returns
returns c = sym (straight _ c.grain_of-g.result c.grain_of-g.ensures.0).down_is
