-- The index is in the table, so the read is the model's. Assumes nothing.
use mathlib.Core.Path.{refl}
use Rattle.tables.specs.Layout.{word}
use Rattle.records.proofs.nodes.word.Goals as goal

pub returns : goal.returns
unfolding word
returns c = rw c.place.ensures refl
