-- By the test that the model makes for the bits and again for the link. Assumes nothing.
use mathlib.Core.Path.{refl}
use Rattle.tables.specs.Layout.{put_link}
use borrow.Author.Tests.{lt-ltb, le-ltb}
use native.Mathlib.Omega.{arith}
use Rattle.bins.proofs.insert.put_on_top.Goals as goal

pub returns-then-old_top-max_allocs : goal.returns-then-old_top-max_allocs
unfolding put_link
returns-then-old_top-max_allocs c =
    rw (lt-ltb c.args.old_top.0 c.args.max_allocs (omega (arith, c.if-old_top-max_allocs.true))) (refl, refl, c.put.ensures)

pub returns : goal.returns
unfolding put_link
returns c =
    rw (le-ltb c.args.old_top.0 c.args.max_allocs (omega (arith, c.if-old_top-max_allocs.false)))
    (c.mark.ensures.top_is, c.mark.ensures.leaves_are, refl)
