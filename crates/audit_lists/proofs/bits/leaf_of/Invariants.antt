-- The bits from i on are made. Assumes nothing.
use mathlib.Core.Path.{◌≡◌}
use Prim.Native.Nat.{◌≤◌}
use Rattle.tables.specs.Calls.{edition32}
use Rattle.audit_words.proofs.Turns.{leaf_bit, Above}
use Rattle.audit_lists.proofs.bits.leaf_of.Given as goal

abbrev pub invariant-loop-i : goal.invariant-loop-i
invariant-loop-i l = (l.i ≤ 8) × (l.m ≡ Above 8 (leaf_bit edition32 l.bin_indices l.t) l.i)
