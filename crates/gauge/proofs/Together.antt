-- The numbers of a reading, put together. Assumes nothing.
use mathlib.Core.Path.{◌≡◌}
use Prim.Native.Nat.{ℕ}
use lib.IntN.{ℤ}
use lib.Ieee.{Float}
use Rattle.ledger.specs.Ledger.{reported}
use Rattle.gauge.specs.Rule.{Watch, level_after, peak_after, net_change, watch_after}
use Rattle.gauge.specs.Answers.{read, read_after}

pub together : (g : Watch) (units fill : ℕ) (level peak : Float) (net : ℤ) → level ≡ level_after g.level fill → peak ≡ peak_after g.peak level
    → net ≡ net_change g.last units
    → (read fill level peak net, record { level = level; peak = peak; last = units }) ≡ read_after g (reported units fill)
unfolding read_after watch_after
together g units fill level peak net level-is peak-is net_is = rw (net_is, peak-is, level-is)
