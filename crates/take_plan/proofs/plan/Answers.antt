-- What stops a take, or the record at the top of the class found: that is `plan_take`. Assumes nothing.
use mathlib.Core.Path.{ap, ◌∙◌}
use Prim.Native.Nat.{ℕ}
use Rattle.std.proofs.lemmas.Result.{err_from_is_err_and}
use Rattle.small_float.proofs.Told.{told_class, told_none, class_in_use}
use Rattle.tables.specs.Search.{find_for}
use Rattle.tables.specs.Take.{stop, plan_spare, plan_region, plan_record}
use Rattle.take_plan.proofs.Asked.{class_low, stopped_plan, record_plan, found_from, plan_without}
use Rattle.take_plan.proofs.plan.Goals as goal

pub find_class-found-requires : goal.find_class-found-requires
find_class-found-requires c =
    class_in_use _ _ (told_class c.searched_from.ensures c.in-Some.is)

pub bounds-bin_indices-c : goal.bounds-bin_indices-c
bounds-bin_indices-c c =
    let from = told_class c.searched_from.ensures c.in-Some.is in
    class_low (find_for _ _ _) c.args.t.free_offset c.find_class-found.result c.seek.result
    (found_from _ _ _ _ _ from c.find_class-found.ensures) c.seek.ensures c.in_ok-c.was

pub returns-in_err-c : goal.returns-in_err-c
returns-in_err-c c =
    let from = told_class c.searched_from.ensures c.in-Some.is in
    let left = err_from_is_err_and c.from_residual.result c.from_residual.ensures.1 in
    rw (left.1, left.2)
    (stopped_plan _ _ c.find_class-found.result c.seek.result (found_from _ _ _ _ _ from c.find_class-found.ensures)
    c.seek.ensures c.in_err-c.was)

pub returns : goal.returns
unfolding plan_record plan_region plan_spare
returns c =
    let from = told_class c.searched_from.ensures c.in-Some.is in
    rw c.plan_record.ensures
    (record_plan _ _ c.find_class-found.result c.seek.result (found_from _ _ _ _ _ from c.find_class-found.ensures)
    c.seek.ensures c.in_ok-c.was)

pub returns-in_default : goal.returns-in_default
returns-in_default c =
    let none_is = told_none c.searched_from.ensures c.in_default.is in
    ap (λ (k : ℕ). stop k) c.without_class.ensures ∙ plan_without _ _ none_is
