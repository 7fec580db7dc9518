-- The code is `unlink_at` with its two tests made once: a record before it, a record after it. Assumes nothing.
use lib.ListN.{set}
use Rattle.tables.specs.Layout.{put_link}
use Rattle.tables.specs.Steps.{unlink_at}
use Rattle.records.specs.InWords.{words_of, with_top_bits}
use borrow.Author.Tests.{lt-ltb, le-ltb}
use native.Mathlib.Omega.{arith}
use Rattle.bins.proofs.remove.remove_from_class.Goals as goal

-- one before it
pub returns-then-prev-max_allocs : goal.returns-then-prev-max_allocs
unfolding unlink_at put_link
returns-then-prev-max_allocs c ps =
    rw (
      c.put_link.ensures,
      c.put.ensures,
      lt-ltb c.args.prev.0 c.args.t.max_allocs (omega (arith, c.if-prev-max_allocs.true)),
    )

-- none before it, one after it
pub returns-then-next-max_allocs : goal.returns-then-next-max_allocs
unfolding unlink_at put_link
returns-then-next-max_allocs c ps =
    rw (
      c.put-then-next-max_allocs.ensures,
      le-ltb c.args.prev.0 c.args.t.max_allocs (omega (arith, c.if-prev-max_allocs.false)),
      lt-ltb c.args.next.0 c.args.t.max_allocs (omega (arith, c.if-next-max_allocs.true)),
    )

-- none beside it
pub returns : goal.returns
unfolding unlink_at put_link
returns c ps =
    rw (
      c.with_used_bins_top.ensures,
      le-ltb c.args.prev.0 c.args.t.max_allocs (omega (arith, c.if-prev-max_allocs.false)),
      le-ltb c.args.next.0 c.args.t.max_allocs (omega (arith, c.if-next-max_allocs.false)),
    )
    (λ i.
    words_of
    (with_top_bits c.args.t (c.unmark-top.ensures.top_is i))
    (set c.args.bin_indices.now c.args.c.0 c.args.next.0)
    (c.unmark-top.ensures.leaves_are i)
    c.args.nodes.now
    ps)
