-- At each turn the walk has come from where it stood to where it stands. Assumes nothing.
use mathlib.Core.Path.{◌≡◌, sym, ap, ◌∙◌}
use Prim.Native.Nat.{◌+◌, ◌-◌}
use Rattle.audit_words.specs.declared.Walk.{Walk}
use Rattle.audit_words.specs.Chain.{advanced}
use Rattle.audit_words.proofs.ChainMet.{is_good}
use Rattle.audit_chain.proofs.Coming.{comes_nowhere, comes_past}
use native.Mathlib.Omega.{arith}
use Rattle.audit_chain.proofs.chain.run_on.Goals as goal

pub loop-w-init : goal.loop-w-init
loop-w-init c = comes_nowhere _ _ _ _ _ c.requires

pub good_region-requires : goal.good_region-requires
good_region-requires c = c.loop-w.invariant.bounded.offset_low

pub overflow_add-follows : goal.overflow_add-follows
overflow_add-follows c =
    let good = is_good _ _ _ _ _ (sym c.good_region.ensures ∙ c.if-not-good_region.false) in
    omega (arith, good.low)

pub next_of-next-requires : goal.next_of-next-requires
next_of-next-requires c =
    let good = is_good _ _ _ _ _ (sym c.good_region.ensures ∙ c.if-not-good_region.false) in
    omega (arith, good.low)

pub advance-w-requires : goal.advance-w-requires
advance-w-requires c =
    let good = is_good _ _ _ _ _ (sym c.good_region.ensures ∙ c.if-not-good_region.false) in
    let linked : c.next_of-next.result ≡ c.loop-w.w.here + 1 = omega arith in record { in_table = omega (arith, good.low); records_bound = omega (arith, c.loop-w-test.true); frees_le_records = c.loop-w.invariant.bounded.frees_low; total_le_offset = c.loop-w.invariant.bounded.total_low; here_bound = omega (arith, good.inside); next_value = sym linked ∙ c.next_of-next.ensures }

pub loop-w-smaller : goal.loop-w-smaller
unfolding advanced
loop-w-smaller c = omega (arith, ap (λ (v : Walk). v.records) c.advance-w.ensures)

pub loop-w-preserved : goal.loop-w-preserved
loop-w-preserved c =
    let good = sym c.good_region.ensures ∙ c.if-not-good_region.false in
    comes_past _ _ _ _ _ _ _ c.loop-w.invariant c.loop-w-test.true good c.advance-w.ensures

pub returns : goal.returns
returns c = c.loop-w.invariant
