-- The list so far is the model's, and its members are no more than the free regions. Assumes nothing.
use mathlib.Core.Path.{◌≡◌}
use Prim.Native.Nat.{◌-◌, ◌≤◌}
use Rattle.audit_words.specs.Lists.{list_from}
use Rattle.audit_lists.proofs.lists.list_from.Given as goal

abbrev pub invariant-loop-m : goal.invariant-loop-m
invariant-loop-m l =
    (list_from (l.frees - l.initial.m.listed) l.t.nodes.now l.t.scratch.now l.t.max_allocs l.c.0 l.initial.m ≡ list_from (l.frees - l.m.listed) l.t.nodes.now l.t.scratch.now l.t.max_allocs l.c.0 l.m)
    × (l.m.listed ≤ l.frees)

abbrev pub decreases-loop-m : goal.decreases-loop-m
decreases-loop-m l = l.frees - l.m.listed
