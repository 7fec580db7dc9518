-- The bits from i on are made. Assumes nothing.
use mathlib.Core.Path.{◌≡◌, sym, ap, ◌∙◌}
use Rattle.tables.specs.Calls.{edition32}
use Rattle.audit_words.specs.Bits.{leaf_of}
use Rattle.audit_words.proofs.Turns.{head_bit_bit, leaf_bit, Above, mask_none_yet, mask_turn, mask_all, mask_room}
use native.Mathlib.Omega.{arith}
use Rattle.audit_lists.proofs.bits.leaf_of.Goals as goal

pub loop-i-init : goal.loop-i-init
loop-i-init c = (omega arith, sym (mask_none_yet 8 (leaf_bit edition32 c.args.bin_indices.now c.args.t)))

pub overflow_mul-m : goal.overflow_mul-m
overflow_mul-m c =
    let bits = leaf_bit edition32 c.args.bin_indices.now c.args.t in
    omega (arith, c.loop-i.invariant.1, mask_room 8 bits (omega arith) (λ j. head_bit_bit edition32 _) c.loop-i.i (omega arith))

pub overflow_add-m : goal.overflow_add-m
overflow_add-m c =
    let bits = leaf_bit edition32 c.args.bin_indices.now c.args.t in
    omega (
      arith,
      c.loop-i.invariant.1,
      c.head_bit.ensures.1,
      mask_room 8 bits (omega arith) (λ j. head_bit_bit edition32 _) c.loop-i.i (omega arith),
    )

pub loop-i-preserved : goal.loop-i-preserved
loop-i-preserved c =
    let bits = leaf_bit edition32 c.args.bin_indices.now c.args.t in
    let turn = mask_turn 8 bits c.loop-i.i (omega arith) c.loop-i.invariant.0 in
    (omega arith, omega (arith, turn, c.loop-i.invariant.1, c.head_bit.ensures.0))

pub returns : goal.returns
unfolding leaf_of
returns c =
    let bits = leaf_bit edition32 c.args.bin_indices.now c.args.t in
    let none_left : c.loop-i.i ≡ 0 = omega arith in
    c.loop-i.invariant.1 ∙ ap (Above 8 bits) none_left ∙ mask_all 8 bits
