-- No record below i starts the chain. Assumes nothing.
use mathlib.Core.Path.{◌≡◌}
use Prim.Native.Nat.{◌-◌, ◌≤◌}
use Rattle.tables.specs.Calls.{edition32}
use Rattle.audit_words.specs.Chain.{first_record}
use Rattle.audit_chain.proofs.chain.first_record.Given as goal

abbrev pub invariant-loop-i : goal.invariant-loop-i
invariant-loop-i l =
    (l.i ≤ l.m.max_allocs)
    × (first_record edition32 l.m.max_allocs l.m.nodes.now l.m.scratch.now 0 ≡ first_record edition32 (l.m.max_allocs - l.i) l.m.nodes.now l.m.scratch.now l.i)
