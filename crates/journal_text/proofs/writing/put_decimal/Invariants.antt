-- The digits behind the place are put, and what is left of the number are those before it. Assumes nothing.
use Prim.Native.Nat.{◌+◌, ◌≤◌}
use mathlib.Core.Path.{◌≡◌}
use lib.ListN.{length}
use Rattle.journal_text.specs.Decimal.{decimal}
use Rattle.journal_text.proofs.Backwards.{Tail}
use Rattle.journal_text.proofs.writing.put_decimal.Given as goal

abbrev pub invariant-loop-rest : goal.invariant-loop-rest
invariant-loop-rest l =
    Tail l.n l.rest l.initial.out l.out l.place
    × (l.place + 1 ≡ l.at + length (decimal l.rest))
    × (l.at + length (decimal l.n) ≡ l.next) × (l.next ≤ l.at + 10)
    × (length l.out ≡ length l.initial.out)

abbrev pub decreases-loop-rest : goal.decreases-loop-rest
decreases-loop-rest l = l.rest
