-- Stopped by the plan, or merged; what the commit requires the plan has made sure of. Assumes nothing.
use mathlib.Core.Path.{refl, sym, ap, ◌∙◌}
use mathlib.Core.List.{[]}
use Rattle.tables.specs.Calls.{edition32}
use Rattle.tables.proofs.Commits.{outcome_is, back_stopped}
use Rattle.back_plan.specs.Plan.{plan_of}
use Rattle.giving.proofs.Walk.{merged_back, ready}
use Rattle.giving.proofs.give_back.Goals as goal

pub carry_out-requires : goal.carry_out-requires
carry_out-requires c =
    record { has_room = c.requires.has_room; max_allocs_in_bounds = c.requires.max_allocs_in_bounds; merge_guards = ready _ _ (c.plan.ensures.by_index [] [] []) c.plan.ensures.under_record c.in-Ok.is }

pub returns-in-Err : goal.returns-in-Err
returns-in-Err c =
    back_stopped edition32 _ _ (sym (c.plan.ensures.by_index _ _ _) ∙ ap plan_of c.in-Err.is)

pub returns-in-Ok : goal.returns-in-Ok
returns-in-Ok c =
    outcome_is c.carry_out.ensures.answer_value refl ∙ merged_back edition32 _ _ (c.plan.ensures.by_index _ _ _) c.plan.ensures.under_record c.in-Ok.is c.carry_out.ensures.free_nodes_after
