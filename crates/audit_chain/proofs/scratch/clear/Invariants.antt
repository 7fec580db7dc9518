-- The words below i are cleared. Assumes nothing.
use mathlib.Core.Path.{◌≡◌}
use Prim.Native.Nat.{◌-◌, ◌≤◌}
use Rattle.audit_words.specs.Scratch.{cleared}
use Rattle.audit_chain.proofs.scratch.clear.Given as goal

abbrev pub invariant-loop-i : goal.invariant-loop-i
invariant-loop-i l = (l.i ≤ l.n) × (l.scratch ≡ cleared l.i l.initial.scratch)
