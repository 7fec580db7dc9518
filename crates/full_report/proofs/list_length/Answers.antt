-- After n steps the list is walked on from `node`. Assumes nothing.
use native.Mathlib.Nat.{sub-zero}
use mathlib.Core.Path.{sym, ◌∙◌}
use Rattle.tables.proofs.Turns.{list_ends, list_lost, list_goes_on}
use native.Mathlib.Omega.{arith}
use borrow.Author.Rules.{rules}
use Rattle.full_report.proofs.list_length.Goals as goal

pub loop-node-init : goal.loop-node-init
loop-node-init c = (search rules, rw sub-zero)

pub returns-then-max_allocs-n : goal.returns-then-max_allocs-n
returns-then-max_allocs-n c =
    sym (c.loop-node.invariant.1 ∙ list_lost _ _ _ _ c.loop-node-test.true c.if-max_allocs-n.true)

pub loop-node-preserved : goal.loop-node-preserved
loop-node-preserved c =
    (omega arith, c.loop-node.invariant.1 ∙ list_goes_on _ _ _ _ c.loop-node-test.true c.if-max_allocs-n.false ∙ rw c.word-node.ensures)

pub returns : goal.returns
returns c = sym (c.loop-node.invariant.1 ∙ list_ends _ _ _ _ c.loop-node-test.false _)
