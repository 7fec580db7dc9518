-- The index is in the table, so the write is the model's. Assumes nothing.
use mathlib.Core.Path.{refl}
use Rattle.tables.specs.Layout.{put}
use Rattle.records.proofs.nodes.put.Goals as goal

pub returns : goal.returns
unfolding put
returns c = rw c.place.ensures refl
