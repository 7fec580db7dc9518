-- The walk has come from the first record to where it stands. Assumes nothing.
use Prim.Native.Nat.{◌-◌, ◌≤◌}
use Rattle.tables.specs.Calls.{edition32}
use Rattle.audit_words.specs.Chain.{started}
use Rattle.audit_chain.specs.Comes.{Comes}
use Rattle.audit_chain.proofs.chain.walk_from.Given as goal

-- no more regions in a row than records met
abbrev pub invariant-loop-w : goal.invariant-loop-w
invariant-loop-w l =
    Comes l.m.nodes.now l.m.scratch.now l.m.max_allocs l.size (started edition32 l.start) l.w × (l.in_a_row ≤ l.w.records)

abbrev pub decreases-loop-w : goal.decreases-loop-w
decreases-loop-w l = l.m.max_allocs - l.w.records
