-- The leaf bytes below t agree. Assumes nothing.
use mathlib.Core.Path.{refl, sym, ◌∙◌}
use Prim.Native.Nat.{◌≤◌, ◌<◌}
use Rattle.tables.specs.Calls.{edition32}
use Rattle.audit_words.proofs.Turns.{leaf_turn, leaf_stop, leaf_end}
use native.Mathlib.Omega.{arith}
use Rattle.audit_lists.proofs.bits.leaves_agree.Goals as goal

pub loop-t-init : goal.loop-t-init
loop-t-init c = (omega arith, refl)

pub returns-then-from-leaf_of : goal.returns-then-from-leaf_of
returns-then-from-leaf_of c =
    let turn : c.loop-t.t < 32 = omega arith in
    sym (c.loop-t.invariant.1 ∙ leaf_stop edition32 _ _ _ turn
    (λ e. c.if-from-leaf_of.true (c.from.ensures ∙ e ∙ sym c.leaf_of.ensures)))

pub loop-t-preserved : goal.loop-t-preserved
loop-t-preserved c =
    let turn : c.loop-t.t < 32 = omega arith in (
      omega arith,
      c.loop-t.invariant.1 ∙ leaf_turn edition32 _ _ _ turn
          (sym c.from.ensures ∙ c.if-from-leaf_of.false ∙ c.leaf_of.ensures),
    )

pub returns : goal.returns
returns c =
    let all : 32 ≤ c.loop-t.t = omega arith in
    sym (c.loop-t.invariant.1 ∙ leaf_end edition32 _ _ _ all)
