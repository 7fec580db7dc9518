-- The walk has come from the first record to where it stands. Assumes nothing.
use mathlib.Core.Path.{sym, ap, ◌∙◌}
use Prim.Native.Nat.{◌-◌}
use Rattle.tables.specs.Calls.{edition32}
use Rattle.audit_words.specs.declared.Walk.{Walk}
use Rattle.audit_words.specs.Chain.{advanced}
use Rattle.audit_words.proofs.ChainMet.{is_good}
use Rattle.audit_words.proofs.Turns.{walk_stop, walk_end}
use Rattle.audit_chain.proofs.Coming.{comes_nowhere, comes_past, comes_on, comes_to_end}
use native.Mathlib.Omega.{arith}
use Rattle.audit_chain.proofs.chain.walk_from.Goals as goal

pub loop-w-init : goal.loop-w-init
loop-w-init c = (
  comes_nowhere _ _ _ _ _
      (record { records_low = omega arith; frees_low = omega arith; total_low = omega arith; offset_low = omega arith }),
  omega arith,
)

pub good_region-requires : goal.good_region-requires
good_region-requires c = c.loop-w.invariant.0.bounded.offset_low

pub returns-then-not-good_region : goal.returns-then-not-good_region
returns-then-not-good_region c =
    let bad = sym c.good_region.ensures ∙ c.if-not-good_region.true in record { value = comes_to_end _ _ _ _ edition32 _ _ c.loop-w.invariant.0 (walk_stop _ _ _ _ _ c.loop-w-test.true bad); records_bound = c.loop-w.invariant.0.bounded.records_low }

pub overflow_add-follows : goal.overflow_add-follows
overflow_add-follows c =
    let good = is_good _ _ _ _ _ (sym c.good_region.ensures ∙ c.if-not-good_region.false) in
    omega (arith, good.low)

pub next_of-next-requires : goal.next_of-next-requires
next_of-next-requires c =
    let good = is_good _ _ _ _ _ (sym c.good_region.ensures ∙ c.if-not-good_region.false) in
    omega (arith, good.low)

pub counted-in_a_row-requires : goal.counted-in_a_row-requires
counted-in_a_row-requires c =
    omega (arith, c.loop-w-test.true, c.loop-w.invariant.1)

pub advance-v-requires : goal.advance-v-requires
advance-v-requires c =
    let good = is_good _ _ _ _ _ (sym c.good_region.ensures ∙ c.if-not-good_region.false) in
    record { in_table = omega (arith, good.low); records_bound = omega (arith, c.loop-w-test.true); frees_le_records = c.loop-w.invariant.0.bounded.frees_low; total_le_offset = c.loop-w.invariant.0.bounded.total_low; here_bound = omega (arith, good.inside); next_value = c.next_of-next.ensures }

pub run_if_likely-w-requires : goal.run_if_likely-w-requires
run_if_likely-w-requires c =
    let good = sym c.good_region.ensures ∙ c.if-not-good_region.false in
    let past = comes_past _ _ _ _ _ _ _ c.loop-w.invariant.0 c.loop-w-test.true good c.advance-v.ensures in
    past.bounded

pub loop-w-smaller : goal.loop-w-smaller
unfolding advanced
loop-w-smaller c = omega (arith, ap (λ (v : Walk). v.records) c.advance-v.ensures, c.run_if_likely-w.ensures.no_fewer)

pub loop-w-preserved : goal.loop-w-preserved
unfolding advanced
loop-w-preserved c =
    let good = sym c.good_region.ensures ∙ c.if-not-good_region.false in
    let past = comes_past _ _ _ _ _ _ _ c.loop-w.invariant.0 c.loop-w-test.true good c.advance-v.ensures in (
      comes_on _ _ _ _ _ _ _ past c.run_if_likely-w.ensures,
      omega (
        arith,
        c.loop-w.invariant.1,
        c.counted-in_a_row.ensures,
        ap (λ (v : Walk). v.records) c.advance-v.ensures,
        c.run_if_likely-w.ensures.no_fewer,
      ),
    )

pub returns : goal.returns
returns c =
    record { value = comes_to_end _ _ _ _ edition32 _ _ c.loop-w.invariant.0 (walk_end _ _ _ _ _ c.loop-w-test.false); records_bound = c.loop-w.invariant.0.bounded.records_low }
