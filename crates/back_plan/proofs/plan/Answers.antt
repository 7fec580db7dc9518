-- A live record is below the count, and its neighbours are looked at alike. Assumes nothing.
use mathlib.Core.Path.{◌≡◌, sym, ◌∙◌}
use Rattle.tables.specs.Layout.{word, data_offset}
use Rattle.tables.specs.HandBack.{plan_merged, plan_back}
use Rattle.tables.proofs.Guards.{live_low}
use Rattle.records.specs.InWords.{words_of}
use Rattle.back_plan.proofs.Sides.{sides_planned, elsewhere_planned}
use native.Mathlib.Omega.{arith}
use borrow.Author.Rules.{rules}
use borrow.Author.Tests.{eq-eqb}
use Rattle.back_plan.proofs.plan.Goals as goal

pub word-offset-requires : goal.word-offset-requires
word-offset-requires c =
    let low = live_low _ _ _ (sym c.is_live.ensures ∙ c.if-is_live.true) in
    omega (arith, low, c.requires)

pub returns-then-offset-span : goal.returns-then-offset-span
returns-then-offset-span c =
    record {
      by_index = λ heads leaves pile.
          elsewhere_planned (words_of c.args.t heads leaves c.args.nodes.now pile) c.args.span.offset c.args.span.metadata.0
          (sym c.is_live.ensures ∙ c.if-is_live.true) (λ e. c.if-offset-span.true (c.word-offset.ensures ∙ e));
      under_record = search rules;
    }

pub word-requires : goal.word-requires
word-requires c =
    let low = live_low _ _ _ (sym c.is_live.ensures ∙ c.if-is_live.true) in
    omega (arith, low, c.requires)

pub word-requires-then-is_live : goal.word-requires-then-is_live
word-requires-then-is_live c =
    let low = live_low _ _ _ (sym c.is_live.ensures ∙ c.if-is_live.true) in
    omega (arith, low, c.requires)

pub word-requires-then-is_live-2 : goal.word-requires-then-is_live-2
word-requires-then-is_live-2 c =
    let low = live_low _ _ _ (sym c.is_live.ensures ∙ c.if-is_live.true) in
    omega (arith, low, c.requires)

pub returns-then-is_live : goal.returns-then-is_live
unfolding plan_merged
returns-then-is_live c =
    let there : word c.args.nodes.now data_offset c.args.span.metadata.0 ≡ c.args.span.offset = cc in
    record {
      by_index = λ heads leaves pile.
          c.plan_merged.ensures.result_value
          ∙ sides_planned _ _ _
          (sym c.is_live.ensures ∙ c.if-is_live.true)
          (eq-eqb _ _ there)
          c.word.ensures
          c.word-then-is_live.ensures
          c.word-offset.ensures
          c.word-then-is_live-2.ensures
          c.beside-before.ensures
          c.beside-after.ensures;
      under_record = c.plan_merged.ensures.under_record;
    }

pub returns : goal.returns
unfolding plan_back
returns c = record { by_index = λ heads leaves pile. rw (← c.is_live.ensures, c.if-is_live.false); under_record = search rules }
