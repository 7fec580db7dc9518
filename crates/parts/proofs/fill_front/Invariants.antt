-- So far as the loop has come, the bytes are in front. Assumes nothing.
use mathlib.Core.Path.{◌≡◌}
use lib.ListN.{length}
use Rattle.parts.proofs.Laws.{copied}
use Rattle.parts.proofs.fill_front.Given as goal

abbrev pub invariant-loop-i : goal.invariant-loop-i
invariant-loop-i l = (l.part ≡ copied l.initial.part (l.bytes) l.i) × (length l.part ≡ length l.initial.part)
