-- By the tests that the model makes too. Assumes nothing.
use borrow.Author.Tests.{lt-ltb, le-ltb}
use Rattle.tables.specs.HandBack.{is_free}
use Rattle.records.proofs.live.is_free.Goals as goal

pub returns-then-link-max_allocs : goal.returns-then-link-max_allocs
unfolding is_free
returns-then-link-max_allocs c = rw (lt-ltb _ _ c.if-link-max_allocs.true, c.word.ensures)

pub returns : goal.returns
unfolding is_free
returns c = rw (le-ltb _ _ c.if-link-max_allocs.false)
