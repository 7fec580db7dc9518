-- What the rounding up tells the code that asks it: a class, which a region can have, or none. Assumes nothing.
use Prim.Native.Nat.{ℕ, ◌<◌}
use mathlib.Core.Path.{◌≡◌, sym, ap, ◌∙◌}
use mathlib.Core.Option.{Option as Maybe, none, some}
use Rattle.std.specs.Prelude.{Option, Some, None}
use native.Mathlib.Omega.{arith}
use Rattle.small_float.specs.declared.Class.{Class}
use Rattle.small_float.specs.Class.{classes_in_use, rounded_up}
use Rattle.small_float.specs.RoundedUp.{rounded_to}
use Rattle.small_float.proofs.Facts.{class_facts}

pub told_class : {wanted : Maybe ℕ} {answer : Option Class} {class : Class} → rounded_to answer ≡ wanted → answer ≡ Some class → wanted ≡ some class.0
told_class right is = sym right ∙ ap rounded_to is

pub told_none : {wanted : Maybe ℕ} {answer : Option Class} → rounded_to answer ≡ wanted → answer ≡ None → wanted ≡ none
told_none right is = sym right ∙ ap rounded_to is

pub class_in_use : (size class : ℕ) → rounded_up size ≡ some class → class < classes_in_use
class_in_use size class e = omega (arith, class_facts.up_most size class e)
