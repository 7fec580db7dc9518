-- The code is `pop_pile`. Assumes nothing.
use Rattle.tables.specs.Steps.{pop_pile}
use Rattle.records.proofs.pile.pop.Goals as goal

pub returns : goal.returns
unfolding pop_pile
returns c = λ hs ls ns ps. rw c.with_free_offset.ensures
