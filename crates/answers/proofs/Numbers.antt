-- A refusal is known by its number. Assumes nothing.
use mathlib.Core.Path.{◌≡◌, refl, sym, ap, ◌∙◌}
use mathlib.Core.Bool.{cond}
use Prim.Native.Nat.{ℕ, ◌≤◌}
use native.Mathlib.Omega.{arith}
use mathlib.Core.Logic.{◌≢◌}
use lib.Dec.{eqb}
use Rattle.answers.specs.declared.Refusal.{Refusal}
use Rattle.answers.specs.declared.Refusal.TheVariants.{BadCount, TableTooShort, NoSpareRecord, NoRegion, NotLive, Unsound, StartsElsewhere}
use Rattle.answers.specs.Refusals.{number_of, NumberMeans}

-- the refusal of a number
numbered : ℕ → Refusal
numbered n =
    cond (eqb n 1) BadCount
    (cond (eqb n 2) TableTooShort
    (cond (eqb n 3) NoSpareRecord (cond (eqb n 4) NoRegion (cond (eqb n 5) NotLive (cond (eqb n 6) Unsound StartsElsewhere)))))

back : (why : Refusal) → numbered (number_of why) ≡ why
unfolding numbered
back BadCount = refl
back TableTooShort = refl
back NoSpareRecord = refl
back NoRegion = refl
back NotLive = refl
back Unsound = refl
back StartsElsewhere = refl

in_range : (why : Refusal) → (1 ≤ number_of why) × (number_of why ≤ 8) × (number_of why ≢ 7)
in_range BadCount = (omega arith, omega arith, λ e. omega arith)
in_range TableTooShort = (omega arith, omega arith, λ e. omega arith)
in_range NoSpareRecord = (omega arith, omega arith, λ e. omega arith)
in_range NoRegion = (omega arith, omega arith, λ e. omega arith)
in_range NotLive = (omega arith, omega arith, λ e. omega arith)
in_range Unsound = (omega arith, omega arith, λ e. omega arith)
in_range StartsElsewhere = (omega arith, omega arith, λ e. omega arith)

pub number_means : NumberMeans
number_means = record {
  none_shared = λ why other e. sym (back why) ∙ (ap numbered e ∙ back other);
  in_range = in_range;
}
