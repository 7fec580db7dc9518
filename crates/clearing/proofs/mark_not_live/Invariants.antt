-- Below r each record is marked not live. Assumes nothing.
use mathlib.Core.Path.{◌≡◌}
use Rattle.tables.specs.Setup.{wiped}
use Rattle.clearing.proofs.mark_not_live.Given as goal

abbrev pub invariant-loop-r : goal.invariant-loop-r
invariant-loop-r l = l.nodes ≡ wiped l.r l.initial.nodes
