-- The code is `push_pile`. Assumes nothing.
use Rattle.tables.specs.Steps.{push_pile}
use Rattle.records.proofs.pile.push.Goals as goal

pub returns : goal.returns
unfolding push_pile
returns c = λ hs ls ns. rw c.with_free_offset.ensures
