-- The test is the library's comparison, which a not-a-number fails. Assumes nothing.
use mathlib.Core.Path.{sym, ap}
use mathlib.Core.Bool.{Bool, cond}
use Rattle.gauge.specs.Rule.{peak_after}
use Rattle.gauge.proofs.peak_after.Goals as goal

pub returns-then-peak-level : goal.returns-then-peak-level
unfolding peak_after
returns-then-peak-level c = sym (ap (λ (t : Bool). cond t c.args.level c.args.peak) c.if-peak-level.true)

pub returns-else-peak-level : goal.returns-else-peak-level
unfolding peak_after
returns-else-peak-level c = sym (ap (λ (t : Bool). cond t c.args.level c.args.peak) c.if-peak-level.false)
