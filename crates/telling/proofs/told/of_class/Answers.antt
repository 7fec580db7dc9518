-- By the outcome and the class. Assumes nothing.
use Rattle.std.specs.Prelude.{Result, Ok, Err}
use Prim.Native.Nat.{ℕ, ◌≤◌, ◌<◌}
use mathlib.Core.Path.{◌≡◌, ap, sym, ◌∙◌}
use mathlib.Core.List.{List}
use native.Mathlib.Nat.{zero-add}
use lib.ListN.{get_or}
use borrow.Author.Tests.{le-leb, lt-leb}
use Rattle.answers.specs.declared.Refusal.{Refusal}
use Rattle.answers.specs.Refusals.{number_of}
use Rattle.call_values.specs.declared.answer.Answer.{Answer}
use Rattle.call_values.specs.declared.answer.Answer.TheVariants as answer
use Rattle.answers.specs.Answers.{columns, outcome_says}
use Rattle.telling.specs.Told.{told_as, class_in}
use Rattle.telling.proofs.Columns.{at_column}
use Rattle.telling.proofs.told.of_class.Goals as goal

module _ (class : ℕ) (o : Result Unit Refusal) (sizes counts : List ℕ) where
  no_class : o ≡ Ok tt → 256 ≤ class → ◌≡◌ {A = Answer} answer.Nothing (told_as (class_in class) (outcome_says o sizes counts))
  no_class told beyond = rw (told, le-leb 256 class beyond)

  a_class : o ≡ Ok tt → class < 256
      → ◌≡◌ {A = Answer} (answer.Regions (get_or sizes class 0) (get_or counts class 0)) (told_as (class_in class) (outcome_says o sizes counts))
  a_class told below =
      let f : ℕ → ℕ × ℕ = λ c. (get_or sizes c 0, get_or counts c 0) in
      let here : get_or (columns sizes counts) class (0, 0) ≡ f class = at_column f class 256 0 below ∙ ap f (zero-add class) in
      rw (told, lt-leb 256 class below) (ap (λ (p : ℕ × ℕ). answer.Regions p.0 p.1) (sym here))

  no-report : (why : Refusal) (n : ℕ) → o ≡ Err why → n ≡ number_of why
      → ◌≡◌ {A = Answer} (answer.Refused n) (told_as (class_in class) (outcome_says o sizes counts))
  no-report why n told is = rw (told, is)

pub returns-then-class-ge256 : goal.returns-then-class-ge256
returns-then-class-ge256 c = no_class _ _ _ _ c.in-Ok.is c.if-class-ge256.true

pub returns-else-class-ge256 : goal.returns-else-class-ge256
returns-else-class-ge256 c = a_class _ _ _ _ c.in-Ok.is c.if-class-ge256.false

pub returns-in-Err : goal.returns-in-Err
returns-in-Err c =
    no-report c.args.class _ c.args.full.sizes c.args.full.counts _ _ c.in-Err.is c.number.ensures
