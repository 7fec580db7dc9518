-- The bits from t on are made. Assumes nothing.
use mathlib.Core.Path.{◌≡◌}
use Prim.Native.Nat.{◌≤◌}
use lib.ListN.{get_or}
use Rattle.tables.specs.Linked.{non_zero}
use Rattle.audit_words.proofs.Turns.{Above}
use Rattle.audit_lists.proofs.bits.top_of.Given as goal

abbrev pub invariant-loop-t : goal.invariant-loop-t
invariant-loop-t l = (l.t ≤ 32) × (l.m ≡ Above 32 (λ j. non_zero (get_or l.used_bins j 0)) l.t)
