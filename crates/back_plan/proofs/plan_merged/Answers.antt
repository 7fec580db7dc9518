-- The tests are those of `plan_merged`, in the same order. Assumes nothing.
use mathlib.Core.Path.{ap}
use borrow.Author.Tests.{lt-ltb, le-ltb}
use Rattle.answers.specs.declared.Handle.{Handle}
use Rattle.tables.specs.HandBack.{plan_merged}
use borrow.Author.Rules.{rules}
use Rattle.back_plan.proofs.plan_merged.Goals as goal

pub returns-then-size-length : goal.returns-then-size-length
unfolding plan_merged
returns-then-size-length c = record { result_value = rw (lt-ltb _ _ c.if-size-length.true); under_record = search rules }

pub returns-then-size-total : goal.returns-then-size-total
unfolding plan_merged
returns-then-size-total c = record { result_value = rw (le-ltb _ _ c.if-size-length.false, lt-ltb _ _ c.if-size-total.true); under_record = search rules }

pub returns-then-t-pile_top : goal.returns-then-t-pile_top
unfolding plan_merged
returns-then-t-pile_top c =
    record {
      result_value = rw (
        le-ltb _ _ c.if-size-length.false,
        le-ltb _ _ c.if-size-total.false,
        ← c.one_if.ensures.0,
        ← c.one_if-2.ensures.0,
        le-ltb _ _ c.if-t-pile_top.true,
      );
      under_record = search rules;
    }

pub returns : goal.returns
unfolding plan_merged
returns c =
    record {
      result_value = rw (
        le-ltb _ _ c.if-size-length.false,
        le-ltb _ _ c.if-size-total.false,
        ← c.one_if.ensures.0,
        ← c.one_if-2.ensures.0,
        lt-ltb _ _ c.if-t-pile_top.false,
        c.on_side.ensures.0,
        c.on_side.ensures.1,
        c.on_side-2.ensures.0,
        c.on_side-2.ensures.1,
        c.merged_under.ensures.1,
        c.merged_under.ensures.2,
        c.merged_under.ensures.3,
        c.merged_under.ensures.4,
        c.merged_under.ensures.5,
      );
      under_record = ap (λ (h : Handle). h.0) c.merged_under.ensures.0;
    }
