-- The lists below i are counted. Assumes nothing.
use mathlib.Core.Path.{◌≡◌, refl, sym, ap, ◌∙◌}
use lib.ListN.{length-set}
use Rattle.tables.specs.Questions.{lost, full_answer}
use Rattle.full_report.specs.Walks.{walked_of}
use Rattle.tables.proofs.Turns.{count_goes_on, count_lost, count_ends}
use Rattle.full_report.proofs.Columns.{full_columns}
use native.Mathlib.Omega.{arith}
use Rattle.full_report.proofs.count.Goals as goal

pub loop-i-init : goal.loop-i-init
loop-i-init c = (refl, λ leaves pile. refl)

pub returns-in_default : goal.returns-in_default
unfolding full_answer
returns-in_default c =
    let seen : walked_of c.list_length.result ≡ lost = ap walked_of c.in_default.is in record {
      exact = λ leaves pile.
          c.refuse.ensures.0
          ∙ sym (ap full_answer (c.loop-i.invariant.1 leaves pile
          ∙ count_lost _ _ _ (omega arith) (sym c.list_length.ensures ∙ seen)));
      figures = c.refuse.ensures.1;
      places = c.refuse.ensures.2;
    }

pub loop-i-preserved : goal.loop-i-preserved
loop-i-preserved c = (
  simp length-set c.loop-i.invariant.0,
  λ leaves pile.
      c.loop-i.invariant.1 leaves pile
      ∙ count_goes_on _ _ _ (omega arith) (sym c.list_length.ensures ∙ ap walked_of c.in-Some.is),
)

pub returns : goal.returns
returns c =
    record {
      exact = λ leaves pile.
          full_columns c.class_sizes-sizes.result c.loop-i.counts c.class_sizes-sizes.ensures.1
          ∙ sym (ap full_answer (c.loop-i.invariant.1 leaves pile ∙ count_ends _ _ _ (omega arith)));
      figures = tt;
      places = (c.class_sizes-sizes.ensures.0, c.loop-i.invariant.0);
    }
