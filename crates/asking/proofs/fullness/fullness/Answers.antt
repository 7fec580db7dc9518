-- The code is `fill_of_words`. Assumes nothing.
use borrow.Author.Tests.{lt-ltb, le-ltb}
use Rattle.tables.specs.Questions.{fill_of_words}
use Rattle.asking.proofs.fullness.fullness.Goals as goal

pub returns-then-t : goal.returns-then-t
unfolding fill_of_words
returns-then-t c = rw (lt-ltb _ _ c.if-t.true)

pub returns : goal.returns
unfolding fill_of_words
returns c = rw (le-ltb _ _ c.if-t.false, c.part_filled.ensures)
