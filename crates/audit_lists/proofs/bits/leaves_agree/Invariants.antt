-- The leaf bytes below t agree. Assumes nothing.
use mathlib.Core.Path.{◌≡◌}
use Prim.Native.Nat.{◌-◌, ◌≤◌}
use Rattle.tables.specs.Calls.{edition32}
use Rattle.audit_words.specs.Bits.{leaves_from}
use Rattle.audit_lists.proofs.bits.leaves_agree.Given as goal

abbrev pub invariant-loop-t : goal.invariant-loop-t
invariant-loop-t l =
    (l.t ≤ 32) × (leaves_from edition32 32 l.bin_indices l.used_bins 0 ≡ leaves_from edition32 (32 - l.t) l.bin_indices l.used_bins l.t)
