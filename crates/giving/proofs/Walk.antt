-- A plan in code that goes on, and the model's: what its commit comes to, and what it has made sure of. Assumes nothing.
use mathlib.Core.Path.{◌≡◌, sym, ap, subst, ◌∙◌}
use Rattle.ledger.specs.Ledger.{done}
use Rattle.ledger.specs.Calls.{Token}
use Rattle.tables.specs.Words.{Words, Edition, bounds}
use Rattle.tables.specs.HandBack.{merge, plan_back, merging, do_back}
use Rattle.tables.specs.Guards.{MergeGuards}
use Rattle.tables.proofs.Commits as commits
use Rattle.std.specs.Prelude.{Result, Ok}
use Rattle.answers.specs.declared.Refusal.{Refusal}
use Rattle.back_plan.specs.declared.Planned.{Planned}
use Rattle.back_plan.specs.Plan.{merged_in, plan_of, UnderRecord}

-- g is the model's plan, and it goes on
module _ (w : Words) (span : Token) {g : Result Planned Refusal} {p : Planned} (same-plan : plan_of g ≡ plan_back w span)
    (under : UnderRecord span.number g) (goes_on : g ≡ Ok p) where
  found : plan_back w span ≡ merge p.prev.link.0 p.next.link.0 p.prev.free p.next.free (merged_in p.merged)
  found = sym same-plan ∙ ap plan_of goes_on

  same_record : p.merged.record.0 ≡ span.number
  same_record = subst (λ (h : Result Planned Refusal). UnderRecord span.number h) goes_on under

  pub ready : MergeGuards w p.merged.record.0 p.prev.link.0 p.next.link.0 p.prev.free p.next.free (merged_in p.merged)
  ready = commits.merge_ready w span same_record found

pub merged_back : (E : Edition) (w : Words) (span : Token) {v : Words} {g : Result Planned Refusal} {p : Planned} → plan_of g ≡ plan_back w span
    → UnderRecord span.number g → g ≡ Ok p → v ≡ merging (bounds E w) w p.merged.record.0 p.prev.link.0 p.next.link.0 p.prev.free p.next.free (merged_in p.merged)
    → (done, v) ≡ do_back E w span.number (plan_back w span)
merged_back E w span same-plan under goes_on f =
    commits.merged_back E w span (same_record w span same-plan under goes_on) (found w span same-plan under goes_on) f
