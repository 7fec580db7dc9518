-- Of the classes that have been passed those are counted that hold something, and no more than they are. Assumes nothing.
use Prim.Native.Nat.{◌≤◌}
use mathlib.Core.Path.{◌≡◌}
use Rattle.telling.proofs.Columns.{held_below}
use Rattle.telling.proofs.told.count_held.Given as goal

abbrev pub invariant-loop-i : goal.invariant-loop-i
invariant-loop-i l = (l.held ≤ l.i) × (l.held ≡ held_below l.i l.counts)
