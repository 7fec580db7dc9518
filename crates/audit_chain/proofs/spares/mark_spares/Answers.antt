-- The marks so far are the model's. Assumes nothing.
use mathlib.Core.Path.{refl, sym, ap, ◌∙◌}
use Prim.Native.Nat.{ℕ, ◌-◌}
use native.Mathlib.Nat.{sub-zero}
use lib.ListN.{set, length-set}
use Rattle.audit_words.specs.Spares.{Marked}
use Rattle.audit_words.proofs.Marks.{good_low}
use Rattle.audit_words.proofs.Turns.{mark_turn, mark_stop, mark_end}
use native.Mathlib.Omega.{arith}
use Rattle.audit_chain.proofs.spares.mark_spares.Goals as goal

pub loop-i-init : goal.loop-i-init
loop-i-init c = (omega arith, rw sub-zero, omega arith, refl)

pub good_spare-requires : goal.good_spare-requires
good_spare-requires c = record { has_room = omega arith; max_allocs_in_bounds = c.loop-i.invariant.2 }

pub shape_of-scratch-then-not-good_spare : goal.shape_of-scratch-then-not-good_spare
shape_of-scratch-then-not-good_spare c = c.loop-i.invariant.3

pub returns-then-not-good_spare : goal.returns-then-not-good_spare
returns-then-not-good_spare c =
    let good = rw c.spare-r.ensures at (sym c.good_spare.ensures ∙ c.if-not-good_spare.true) in
    let all = c.loop-i.invariant.1 ∙ mark_stop _ _ _ _ _ _ (omega arith) good in
    record { value = sym (ap (λ (m : Marked). m.fine) all); scratch_after = sym (ap (λ (m : Marked). m.marks) all) }

pub mark-requires : goal.mark-requires
mark-requires c =
    let good = sym c.good_spare.ensures ∙ c.if-not-good_spare.false in
    let low = good_low _ c.args.free_nodes.now _ _ _ good in
    omega (arith, low, c.loop-i.invariant.2)

pub loop-i-preserved : goal.loop-i-preserved
loop-i-preserved c =
    let marked = c.mark.ensures ∙ ap (λ (r : ℕ). set c.loop-i.scratch r 1) c.spare-r.ensures in
    let good = rw c.spare-r.ensures at (sym c.good_spare.ensures ∙ c.if-not-good_spare.false) in
    rw marked (
      omega arith,
      c.loop-i.invariant.1 ∙ mark_turn _ _ _ _ _ _ (omega arith) good,
      rw length-set c.loop-i.invariant.2,
      rw length-set c.loop-i.invariant.3,
    )

pub shape_of-scratch : goal.shape_of-scratch
shape_of-scratch c = c.loop-i.invariant.3

pub returns : goal.returns
returns c =
    let all = c.loop-i.invariant.1 ∙ mark_end _ _ _ _ _ _ (omega arith) in
    record { value = sym (ap (λ (m : Marked). m.fine) all); scratch_after = sym (ap (λ (m : Marked). m.marks) all) }
