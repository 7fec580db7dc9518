-- The lists below c are sound, and have `listed` members. Assumes nothing.
use mathlib.Core.Path.{refl, sym, ◌∙◌}
use Rattle.tables.specs.Calls.{edition32}
use Rattle.audit_words.proofs.Turns.{lists_turn, lists_stop, lists_end}
use native.Mathlib.Omega.{arith}
use Rattle.audit_lists.proofs.lists.lists_are_sound.Goals as goal

pub loop-c-init : goal.loop-c-init
loop-c-init c = (omega arith, refl, omega arith)

pub list_from-end-requires : goal.list_from-end-requires
list_from-end-requires c = omega arith

pub returns-then-end : goal.returns-then-end
returns-then-end c =
    sym (c.loop-c.invariant.1
    ∙ lists_stop edition32 _ _ _ _ _ _ _ _ (omega arith) c.list_from-end.ensures.value c.if-end.true)

pub loop-c-preserved : goal.loop-c-preserved
loop-c-preserved c = (
  omega arith,
  c.loop-c.invariant.1
      ∙ lists_turn edition32 _ _ _ _ _ _ _ _ (omega arith) c.list_from-end.ensures.value c.if-end.false,
  c.list_from-end.ensures.still_low,
)

pub returns : goal.returns
returns c = sym (c.loop-c.invariant.1 ∙ lists_end edition32 _ _ _ _ _ _ _ (omega arith))
