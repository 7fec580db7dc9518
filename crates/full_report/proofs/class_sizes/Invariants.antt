-- Below c each class has its value. Assumes nothing.
use Prim.Native.Nat.{ℕ, ◌<◌}
use mathlib.Core.Path.{◌≡◌}
use lib.ListN.{length, get_or}
use Rattle.small_float.specs.Class.{value}
use Rattle.full_report.proofs.class_sizes.Given as goal

abbrev pub invariant-loop-c : goal.invariant-loop-c
invariant-loop-c l = (length l.sizes ≡ 256) × ((k : ℕ) → k < l.c → get_or l.sizes k 0 ≡ value k)
