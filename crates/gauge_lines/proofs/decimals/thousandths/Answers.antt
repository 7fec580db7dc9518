-- Widening leaves the number; 1000 is written by its bit pattern. Assumes nothing.
use Rattle.std.proofs.Common.{false, pos, ap, ◌∙◌}
use lib.Ieee.{Float, fin, binary64, mul, of_bits}
use Rattle.gauge_lines.specs.Thousandths.{whole_part, thousandths}
use Rattle.gauge_lines.proofs.decimals.thousandths.Goals as goal

pub returns : goal.returns
unfolding of_bits thousandths
returns c = c.whole_part.ensures ∙ ap (λ (y : Float). whole_part (mul binary64 y (fin false 125 (pos 3)))) c.f32_to_f64_with_nan.ensures
