-- After n steps the list is walked on from `node`. Assumes nothing.
use Prim.Native.Nat.{◌≤◌, ◌-◌}
use mathlib.Core.Path.{◌≡◌}
use Rattle.tables.specs.Questions.{list_length}
use Rattle.full_report.proofs.list_length.Given as goal

abbrev pub invariant-loop-node : goal.invariant-loop-node
invariant-loop-node l =
    (l.n ≤ l.max_allocs)
    × (list_length l.max_allocs l.nodes l.max_allocs l.start 0 ≡ list_length (l.max_allocs - l.n) l.nodes l.max_allocs l.node l.n)

abbrev pub decreases-loop-node : goal.decreases-loop-node
decreases-loop-node l = l.max_allocs - l.n
