-- A tenth has a digit less. Assumes nothing.
use Prim.Native.Nat.{◌+◌, ◌≤◌}
use mathlib.Core.Path.{◌≡◌}
use lib.ListN.{length}
use Rattle.journal_text.specs.Decimal.{decimal}
use Rattle.journal_text.proofs.writing.digits.Given as goal

abbrev pub invariant-loop-rest : goal.invariant-loop-rest
invariant-loop-rest l = (l.count + length (decimal l.rest) ≡ length (decimal l.n) + 1) × (length (decimal l.n) ≤ 10)

abbrev pub decreases-loop-rest : goal.decreases-loop-rest
decreases-loop-rest l = l.rest
