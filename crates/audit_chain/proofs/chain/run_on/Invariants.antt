-- At each turn the walk has come from where it stood to where it stands. Assumes nothing.
use Prim.Native.Nat.{◌-◌}
use Rattle.audit_chain.specs.Comes.{Comes}
use Rattle.audit_chain.proofs.chain.run_on.Given as goal

abbrev pub invariant-loop-w : goal.invariant-loop-w
invariant-loop-w l = Comes l.m.nodes.now l.m.scratch.now l.m.max_allocs l.size l.initial.w l.w

abbrev pub decreases-loop-w : goal.decreases-loop-w
decreases-loop-w l = l.m.max_allocs - l.w.records
