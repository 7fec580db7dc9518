-- The two bytes are those of the number. Assumes nothing.
use native.Mathlib.Numerals.{add-one}
use Rattle.journal.specs.Bytes.{in_bytes}
use Rattle.journal.proofs.writing.put16.Goals as goal

pub returns : goal.returns
unfolding in_bytes
returns c = rw (add-one, c.to_le_bytes.ensures)
