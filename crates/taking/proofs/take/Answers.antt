-- Each arm of the plan is the model's, and what its commit requires the plan has made sure of. Assumes nothing.
use mathlib.Core.Path.{sym, ap, ◌∙◌}
use Rattle.std.specs.Prelude.{Ok}
use Rattle.tables.specs.Calls.{edition32}
use Rattle.tables.proofs.Commits.{take_stopped, taken_whole, taken_part, whole_ready, split_ready}
use Rattle.take_plan.specs.Plan.{plan_of}
use Rattle.records.proofs.Outcome.{outcome}
use native.Mathlib.Omega.{arith}
use Rattle.taking.proofs.take.Goals as goal

pub grant_whole-u-requires : goal.grant_whole-u-requires
grant_whole-u-requires c =
    record { has_room = omega arith; grant_guards = whole_ready _ (sym c.plan.ensures ∙ ap plan_of (c.in-Ok-Whole.is ∙ ap Ok c.in-Ok-Whole.field-0-is)) }

pub grant_part-u-requires : goal.grant_part-u-requires
grant_part-u-requires c =
    let ready = split_ready _ (sym c.plan.ensures ∙ ap plan_of (c.in-Ok-Split.is ∙ ap Ok c.in-Ok-Split.field-0-is)) in
    record { has_room = omega arith; grant_guards = ready.0; split_guards = ready.1 }

pub returns-in-Err : goal.returns-in-Err
returns-in-Err c =
    outcome _ _ _ _ c.refuse.ensures.0 c.refuse.ensures.1
    ∙ take_stopped edition32 _ _ (sym c.plan.ensures ∙ ap plan_of c.in-Err.is)

pub returns-in-Ok-Whole : goal.returns-in-Ok-Whole
returns-in-Ok-Whole c =
    outcome _ _ _ _ c.grant.ensures.0 c.grant.ensures.1
    ∙ taken_whole edition32 _ _ (sym c.plan.ensures ∙ ap plan_of (c.in-Ok-Whole.is ∙ ap Ok c.in-Ok-Whole.field-0-is)) (c.grant_whole-u.ensures _)

pub returns-in-Ok-Split : goal.returns-in-Ok-Split
returns-in-Ok-Split c =
    outcome _ _ _ _ c.grant-in-Ok-Split.ensures.0 c.grant-in-Ok-Split.ensures.1
    ∙ taken_part edition32 _ _ (sym c.plan.ensures ∙ ap plan_of (c.in-Ok-Split.is ∙ ap Ok c.in-Ok-Split.field-0-is)) (c.grant_part-u.ensures _)
