-- What a reading of the gauge promises, in three parts. The store is lent to be read: every word of it stays. Assumes nothing.
use Rattle.std.specs.Prelude.{◌≡◌, ℕ}
use Rattle.ledger.specs.Ledger.{Ledger, Stacks, reported}
use Rattle.ledger.specs.Fill.{live_units, fill_of}
use Rattle.ledger.specs.Calls.{Fill, Ask}
use Rattle.tables.specs.Words.{Words, Edition}
use Rattle.tables.specs.Calls.{answer_words}
use Rattle.tables.specs.Sound.{Sound}
use Rattle.gauge.specs.Rule.{Watch}
use Rattle.gauge.specs.Answers.{Told, not_read, read_after}

-- on the words w, with the gauge g, a reading tells `told` and leaves the gauge h
pub record ReadPromise (E : Edition) (w : Words) (g : Watch) (told : Told) (h : Watch) : Type 0 where
  -- for all words and for any gauge at all: behind the gate of every call, by the fill that the words tell
  pub exact : (told, h) ≡ read_after g (answer_words E (Ask Fill) w).0
  -- on tables that stand for a ledger: by its live lengths, summed
  pub ledger : (l : Ledger Stacks) → Sound E w l → (told, h) ≡ read_after g (reported (live_units l) (fill_of (live_units l) w.size))
  -- a refused reading leaves the gauge as it came
  pub kept : (k : ℕ) → told ≡ not_read k → h ≡ g
