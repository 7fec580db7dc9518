-- By cases of the answer. Assumes nothing.
use Rattle.std.specs.Prelude.{Result, Ok}
use Rattle.answers.specs.declared.Refusal.{Refusal}
use Prim.Native.Nat.{ℕ}
use mathlib.Core.Path.{◌≡◌, sym, ap, ◌∙◌}
use mathlib.Core.List.{List}
use Rattle.answers.specs.Answers.{columns, outcome_says}
use Rattle.call_values.specs.declared.answer.Answer.{Answer}
use Rattle.call_values.specs.declared.answer.Answer.TheVariants as answer
use Rattle.telling.specs.Told.{told_as, held_in, classes_held}
use Rattle.telling.proofs.told.of_classes.Goals as goal

counted : (o : Result Unit Refusal) (sizes counts : List ℕ) (n : ℕ) → o ≡ Ok tt → n ≡ classes_held (columns sizes counts)
    → ◌≡◌ {A = Answer} (answer.Held n) (told_as held_in (outcome_says o sizes counts))
counted o sizes counts n told is = rw (told, is)

pub returns-in-Ok : goal.returns-in-Ok
returns-in-Ok c =
    counted _ _ _ _ c.in-Ok.is (c.count_held.ensures c.args.full.sizes)

pub returns-in-Err : goal.returns-in-Err
returns-in-Err c =
    ap answer.Refused c.number.ensures
    ∙ sym (ap (λ (o : Result Unit Refusal). told_as held_in (outcome_says o c.args.full.sizes c.args.full.counts)) c.in-Err.is)
