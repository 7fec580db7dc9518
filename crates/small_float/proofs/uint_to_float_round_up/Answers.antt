-- Above 4,026,531,840 there is no class; up to there the code's sum is `up`. Assumes nothing.
use mathlib.Core.Path.{sym, ap, ◌∙◌}
use mathlib.Core.Option.{some}
use native.Mathlib.Omega.{arith}
use borrow.Author.Rules.{rules}
use Rattle.small_float.proofs.Rounding.{rounded_to_none, rounded_to_class}
use Rattle.small_float.proofs.Ceiling.{before_fits, steps_fit, not_negative, count_fits, class_fits, class_is_up}
use Rattle.small_float.proofs.uint_to_float_round_up.Goals as goal

pub overflow_sub-steps : goal.overflow_sub-steps
overflow_sub-steps c = search (rules, before_fits)

pub overflow_add-steps : goal.overflow_add-steps
overflow_add-steps c = search (rules, steps_fit)

pub overflow_cast-result : goal.overflow_cast-result
overflow_cast-result c = (search (rules, not_negative), search (rules, count_fits))

pub overflow_add-result : goal.overflow_add-result
overflow_add-result c = search (rules, class_fits)

pub returns : goal.returns
returns c =
    ap some (class_is_up _ c.grain_of-g.result c.grain_of-g.ensures.0 (omega arith)) ∙ sym (rounded_to_class _ (omega arith))
