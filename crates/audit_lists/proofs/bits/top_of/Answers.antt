-- The bits from t on are made. Assumes nothing.
use mathlib.Core.Path.{◌≡◌, sym, ap, ◌∙◌}
use Prim.Native.Nat.{ℕ}
use lib.ListN.{get_or}
use Rattle.tables.specs.Linked.{non_zero}
use Rattle.tables.proofs.Masks.{non_zero_bit}
use Rattle.audit_words.specs.Bits.{top_of}
use Rattle.audit_words.proofs.Turns.{Above, mask_none_yet, mask_turn, mask_all, mask_room}
use native.Mathlib.Omega.{arith}
use Rattle.audit_lists.proofs.bits.top_of.Goals as goal

pub loop-t-init : goal.loop-t-init
loop-t-init c =
    let bits : ℕ → ℕ = λ j. non_zero (get_or c.args.used_bins.now j 0) in
    (omega arith, sym (mask_none_yet 32 bits))

pub overflow_mul-m : goal.overflow_mul-m
overflow_mul-m c =
    let bits : ℕ → ℕ = λ j. non_zero (get_or c.args.used_bins.now j 0) in
    omega (arith, c.loop-t.invariant.1, mask_room 32 bits (omega arith) (λ j. non_zero_bit _) c.loop-t.t (omega arith))

pub overflow_add-m : goal.overflow_add-m
overflow_add-m c =
    let bits : ℕ → ℕ = λ j. non_zero (get_or c.args.used_bins.now j 0) in
    omega (
      arith,
      c.loop-t.invariant.1,
      c.non_zero.ensures.1,
      mask_room 32 bits (omega arith) (λ j. non_zero_bit _) c.loop-t.t (omega arith),
    )

pub loop-t-preserved : goal.loop-t-preserved
loop-t-preserved c =
    let bits : ℕ → ℕ = λ j. non_zero (get_or c.args.used_bins.now j 0) in
    let turn = mask_turn 32 bits c.loop-t.t (omega arith) c.loop-t.invariant.0 in
    (omega arith, omega (arith, turn, c.loop-t.invariant.1, c.non_zero.ensures.0))

pub returns : goal.returns
unfolding top_of
returns c =
    let bits : ℕ → ℕ = λ j. non_zero (get_or c.args.used_bins.now j 0) in
    let none_left : c.loop-t.t ≡ 0 = omega arith in
    c.loop-t.invariant.1 ∙ ap (Above 32 bits) none_left ∙ mask_all 32 bits
