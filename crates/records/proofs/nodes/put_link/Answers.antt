-- By the test that the model makes too. Assumes nothing.
use borrow.Author.Tests.{lt-ltb, le-ltb}
use Rattle.tables.specs.Layout.{put_link}
use Rattle.records.proofs.nodes.put_link.Goals as goal

pub returns-then-link-max_allocs : goal.returns-then-link-max_allocs
unfolding put_link
returns-then-link-max_allocs c = rw (lt-ltb _ _ c.if-link-max_allocs.true) c.put.ensures

pub returns-else-link-max_allocs : goal.returns-else-link-max_allocs
unfolding put_link
returns-else-link-max_allocs c = rw (le-ltb _ _ c.if-link-max_allocs.false)
