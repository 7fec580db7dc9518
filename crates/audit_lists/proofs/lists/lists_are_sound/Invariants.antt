-- The lists below c are sound, and have `listed` members. Assumes nothing.
use mathlib.Core.Path.{◌≡◌}
use Prim.Native.Nat.{◌-◌, ◌≤◌}
use Rattle.tables.specs.Calls.{edition32}
use Rattle.audit_words.specs.Lists.{lists_from}
use Rattle.audit_lists.proofs.lists.lists_are_sound.Given as goal

abbrev pub invariant-loop-c : goal.invariant-loop-c
invariant-loop-c l =
    (l.c ≤ 256)
    × (lists_from edition32 256 l.t.nodes.now l.t.scratch.now l.bin_indices l.t.max_allocs l.frees 0 0
    ≡ lists_from edition32 (256 - l.c) l.t.nodes.now l.t.scratch.now l.bin_indices l.t.max_allocs l.frees l.c l.listed)
    × (l.listed ≤ l.frees)
