-- What is made so far and the digits that are left make the number. Assumes nothing.
use Prim.Native.Nat.{◌^◌, ◌<◌}
use mathlib.Core.Path.{◌≡◌}
use lib.ListN.{drop}
use Rattle.journal_text.specs.Lines.{made_on}
use Rattle.journal_text.proofs.reading.made.Given as goal

abbrev pub invariant-loop-byte : goal.invariant-loop-byte
invariant-loop-byte l = (l.n < 2 ^ 32) × (made_on 0 l.word ≡ made_on l.n (drop l.byte-index l.word))
