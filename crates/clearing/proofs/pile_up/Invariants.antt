-- Below i the pile is filled, from the bottom. Assumes nothing.
use mathlib.Core.Path.{◌≡◌}
use Rattle.tables.specs.Setup.{piled}
use Rattle.clearing.proofs.pile_up.Given as goal

abbrev pub invariant-loop-i : goal.invariant-loop-i
invariant-loop-i l = l.free_nodes ≡ piled l.i l.max_allocs l.initial.free_nodes
