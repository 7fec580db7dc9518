-- The figures of a refused full report are 0. Assumes nothing.
use mathlib.Core.Path.{◌≡◌, refl, subst, ap₂, ◌∙◌}
use lib.ListN.{replicate}
use Rattle.std.specs.Prelude.{Result, Err}
use Rattle.ledger.specs.Ledger.{numbers_from}
use Rattle.answers.specs.declared.Refusal.{Refusal}
use Rattle.answers.specs.declared.FullAnswer.{FullAnswer}
use Rattle.answers.specs.Answers.{columns, ZeroIfRefused, FiguresOfZero, FigureFacts}

zeros : (a : FullAnswer) (why : Refusal) → a.outcome ≡ Err why → FiguresOfZero a → ZeroIfRefused (Err why) a.sizes a.counts
zeros a why e z = subst (λ (o : Result Unit Refusal). ZeroIfRefused o a.sizes a.counts) e z

rows_of_zeros : columns (replicate 256 0) (replicate 256 0) ≡ replicate 256 (0, 0)
unfolding numbers_from
rows_of_zeros = refl

pub figure_facts : FigureFacts
figure_facts = record {
  refused_rows = λ a why e z. let all = zeros a why e z in ap₂ columns all.0 all.1 ∙ rows_of_zeros;
}
