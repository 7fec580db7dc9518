-- The call asks that the number is above -1 and below 2 ^ 64; the two tests say so, each with its number by its bit pattern. Assumes nothing.
use Rattle.std.proofs.Common.{◌≡◌, true, false, T, pos, sym, refl, ◌∙◌, subst}
use lib.Ieee.{Float, fin, lt, to_unsigned, of_bits, neg}
use Rattle.gauge_lines.specs.Thousandths.{whole_part}
use Rattle.gauge_lines.proofs.decimals.whole_part.Goals as goal

inside : (s : Float) → lt (fin true 1 (pos 0)) s ≡ true → lt s (fin false 1 (pos 64)) ≡ true → whole_part s ≡ to_unsigned 64 s
unfolding whole_part
inside s low high = rw (low, high) refl

too_high : (s : Float) → lt (fin true 1 (pos 0)) s ≡ true → lt s (fin false 1 (pos 64)) ≡ false → whole_part s ≡ 0
unfolding whole_part
too_high s low high = rw (low, high) refl

too_low : (s : Float) → lt (fin true 1 (pos 0)) s ≡ false → whole_part s ≡ 0
unfolding whole_part
too_low s low = rw low refl

pub truncating_f64_to_u64-requires : goal.truncating_f64_to_u64-requires
unfolding of_bits neg
truncating_f64_to_u64-requires c = record { lower_bound = subst T (sym c.if-scaled.true) tt; upper_bound = subst T (sym c.if-scaled-2.true) tt }

pub returns-then-scaled-2 : goal.returns-then-scaled-2
unfolding of_bits neg
returns-then-scaled-2 c = c.truncating_f64_to_u64.ensures ∙ sym (inside _ c.if-scaled.true c.if-scaled-2.true)

pub returns-else-scaled-2 : goal.returns-else-scaled-2
unfolding of_bits neg
returns-else-scaled-2 c = sym (too_high _ c.if-scaled.true c.if-scaled-2.false)

pub returns-else-scaled : goal.returns-else-scaled
unfolding of_bits neg
returns-else-scaled c = sym (too_low _ c.if-scaled.false)
