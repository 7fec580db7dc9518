-- The marks so far are the model's. Assumes nothing.
use mathlib.Core.Path.{◌≡◌}
use Prim.Native.Nat.{◌-◌, ◌≤◌}
use lib.ListN.{length}
use Rattle.audit_words.specs.Spares.{mark_from}
use Rattle.audit_chain.proofs.spares.mark_spares.Given as goal

abbrev pub invariant-loop-i : goal.invariant-loop-i
invariant-loop-i l =
    (l.i ≤ l.spares)
    × (mark_from l.spares l.nodes l.free_nodes l.max_allocs 0 l.initial.scratch ≡ mark_from (l.spares - l.i) l.nodes l.free_nodes l.max_allocs l.i l.scratch)
    × (l.max_allocs ≤ length l.scratch)
    × (length l.scratch ≡ length l.initial.scratch)
