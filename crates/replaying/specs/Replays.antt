-- A replay in code, told by what its steps promise and by nothing else; and the words that stand for what a journal means. Assumes nothing.
use Rattle.std.specs.Prelude.{◌≡◌, List, [], ◌∷◌, ℕ}
use Rattle.ledger.specs.Ledger as ledger
use Rattle.tables.specs.Words.{Words, Edition}
use Rattle.calls.specs.Values.{Answer, says}
use Rattle.journal.specs.declared.entry.Broken.{Broken}
use Rattle.journal.specs.Reading.{read_at, Ending, ended, broken}
use Rattle.demands.specs.Demands.{Begun}
use Rattle.replaying.specs.Steps.{Answered, AtEnd, BrokenOff, Steps}
use Rattle.replaying.specs.Meaning.{Standing, no_store, store}

-- From this place on and with these words, a replay of the journal gives these answers and ends so, with those words left: each step is lent the words
-- that the one before it left, and reads at the place that it gave.
pub data Replays (E : Edition) (bytes : List ℕ) : (at : ℕ) → Words → List ledger.Answer → Ending → Words → Type 0 where
  ends : {at : ℕ} {w v : Words} → Steps E w v (read_at bytes at) AtEnd → Replays E bytes at w [] ended v
  breaks_off : {at : ℕ} {w v : Words} {why : Broken} → Steps E w v (read_at bytes at) (BrokenOff why) → Replays E bytes at w [] (broken why) v
  goes_on : {at next : ℕ} {w v u : Words} {a : Answer} {given : List ledger.Answer} {end : Ending}
      → Steps E w v (read_at bytes at) (Answered a next) → Replays E bytes next v given end u → Replays E bytes at w (says a ∷ given) end u

-- no store: the scalars of a head are zeros, as before any setup and after a refused one
pub record NoStore (w : Words) : Type 0 where
  pub size_is : w.size ≡ 0
  pub count_is : w.count ≡ 0
  pub total_is : w.free_storage ≡ 0
  pub offset_is : w.free_offset ≡ 0
  pub top_is : w.used_bins_top ≡ 0

-- the words stand for it: for a ledger as the demands have it
abbrev pub StandsFor : Edition → Words → Standing → Type 0
StandsFor E w no_store = NoStore w
StandsFor E w (store size count l) = Begun E size count l w
