-- By what stands at the place. Assumes nothing.
use mathlib.Core.Path.{refl, sym, ap, ◌∙◌}
use Rattle.std.specs.Prelude.{Ok}
use Rattle.replaying.specs.Steps.{answered, at_end, broken_off}
use Rattle.replaying.proofs.Stepping.{found}
use Rattle.replaying.proofs.step.Goals as goal

pub returns-in-Ok-Some : goal.returns-in-Ok-Some
returns-in-Ok-Some c =
    found (sym c.read.ensures ∙ c.in-Ok-Some.is ∙ ap Ok c.in-Ok-Some.field-0-is) (answered c.make-called.ensures)

pub returns-in-Ok-None : goal.returns-in-Ok-None
returns-in-Ok-None c =
    found (sym c.read.ensures ∙ c.in-Ok-None.is ∙ ap Ok c.in-Ok-None.field-0-is) (at_end refl)

pub returns-in-Err : goal.returns-in-Err
returns-in-Err c = found (sym c.read.ensures ∙ c.in-Err.is) (broken_off refl)
