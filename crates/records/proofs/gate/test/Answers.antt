-- The tests are the model's, in the same order. What the second one finds is stated as a fact on numbers, so that another limit is refused there.
-- Assumes nothing.
use Prim.Native.Nat.{◌≤◌, ◌<◌}
use native.Mathlib.Omega.{arith}
use borrow.Author.Tests.{lt-ltb, le-ltb}
use Rattle.tables.specs.Gate.{gate}
use Rattle.tables.specs.Calls.{edition32}
use Rattle.records.proofs.gate.test.Goals as goal

pub returns-then-max_allocs-lt2 : goal.returns-then-max_allocs-lt2
unfolding gate
returns-then-max_allocs-lt2 c = rw (lt-ltb _ _ c.if-max_allocs-lt2.true)

pub returns-then-max_allocs-gt-MAX_RECORDS : goal.returns-then-max_allocs-gt-MAX_RECORDS
unfolding gate
returns-then-max_allocs-gt-MAX_RECORDS c =
    let above : edition32.limit < c.args.max_allocs = omega (arith, c.if-max_allocs-gt-MAX_RECORDS.true) in
    rw (le-ltb c.args.max_allocs 2 c.if-max_allocs-lt2.false, lt-ltb edition32.limit c.args.max_allocs above)

pub returns-then-nodes-n : goal.returns-then-nodes-n
unfolding gate
returns-then-nodes-n c =
    let within : c.args.max_allocs ≤ edition32.limit = omega (arith, c.if-max_allocs-gt-MAX_RECORDS.false) in
    rw (le-ltb _ _ c.if-max_allocs-lt2.false, le-ltb _ _ within, lt-ltb _ _ c.if-nodes-n.true)

pub returns-then-free_nodes-n : goal.returns-then-free_nodes-n
unfolding gate
returns-then-free_nodes-n c =
    rw (le-ltb _ _ c.if-max_allocs-lt2.false, le-ltb _ _ c.if-max_allocs-gt-MAX_RECORDS.false, le-ltb _ _ c.if-nodes-n.false, lt-ltb _ _ c.if-free_nodes-n.true)

pub returns : goal.returns
unfolding gate
returns c =
    rw (le-ltb _ _ c.if-max_allocs-lt2.false, le-ltb _ _ c.if-max_allocs-gt-MAX_RECORDS.false, le-ltb _ _ c.if-nodes-n.false, le-ltb _ _ c.if-free_nodes-n.false)
