-- Only a not-a-number is one. Assumes nothing.
use Rattle.std.proofs.Common.{◌≡◌, true, refl, ap, sym, ◌∙◌, subst}
use Rattle.std.specs.Prelude.{T}
use Rattle.std.specs.Float.{binary32}
use Rattle.std.specs.Float.Ieee.{Float, nan, inf, fin, is_nan, to_bits}
use Rattle.gauge_verdicts.proofs.bits_of.Goals as goal

only_nan : (x : Float) → is_nan x ≡ true → x ≡ nan
unfolding is_nan
only_nan nan e = refl
only_nan (inf s) e = absurd (subst T (sym e) tt)
only_nan (fin s m k) e = absurd (subst T (sym e) tt)

pub returns-then-is_nan : goal.returns-then-is_nan
unfolding to_bits
returns-then-is_nan c = sym (ap (λ (x : Float). to_bits binary32 x) (only_nan _ (sym c.is_nan.ensures.value ∙ c.if-is_nan.true)))
