-- Below c each class has its value. Assumes nothing.
use mathlib.Core.Path.{◌∙◌}
use lib.ListN.{length-set}
use Rattle.small_float.proofs.Values.{held_in_64}
use Rattle.tables.proofs.Turns.{value_more}
use native.Mathlib.Omega.{arith}
use Rattle.full_report.proofs.class_sizes.Goals as goal

pub loop-c-preserved : goal.loop-c-preserved
loop-c-preserved c =
    let value-is = c.float_to_uint-value.ensures ∙ held_in_64 _ (omega arith) in (
      simp length-set c.loop-c.invariant.0,
      value_more c.loop-c.sizes c.loop-c.c _ (omega arith) value-is c.loop-c.invariant.1,
    )

pub returns : goal.returns
returns c = (c.loop-c.invariant.0, λ k h. c.loop-c.invariant.1 k (omega arith))
