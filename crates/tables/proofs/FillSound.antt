-- The fill on sound words is the ledger's: the kept total is the free lengths summed, and what is not free is live. Assumes nothing.
use mathlib.Core.Path.{◌≡◌}
use Prim.Native.Nat.{◌-◌, ◌≤◌}
use native.Mathlib.Omega.{arith}
use borrow.Author.Tests.{le-ltb}
use Rattle.ledger.specs.Ledger.{Ledger, Stacks, reported}
use Rattle.ledger.specs.Fill.{live_units, fill_of}
use Rattle.ledger.proofs.Fills.{live_free}
use Rattle.tables.specs.Words.{Words, Edition}
use Rattle.tables.specs.Questions.{fill_of_words}
use Rattle.tables.specs.Sound.{Sound}

pub fill_is : (E : Edition) (w : Words) (l : Ledger Stacks) → Sound E w l → fill_of_words w ≡ reported (live_units l) (fill_of (live_units l) w.size)
unfolding fill_of_words
fill_is E w l S = rw (le-ltb w.size w.free_storage no_more, is_live)
  where
    no_more : w.free_storage ≤ w.size
    no_more = omega (arith, live_free l.line, S.well.lined.cover, S.total)

    is_live : w.size - w.free_storage ≡ live_units l
    is_live = omega (arith, live_free l.line, S.well.lined.cover, S.total)
