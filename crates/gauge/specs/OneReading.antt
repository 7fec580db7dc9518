-- Any two results that a reading's contract allows are the same values of the code: the answer, with its floats, and the gauge that comes back.
-- proofs/OneReading.antt makes it. Assumes nothing.
use Rattle.std.specs.Prelude.{◌≡◌}
use Rattle.ledger.specs.Ledger.{Answer}
use Rattle.tables.specs.Words.{Words, Edition}
use Rattle.gauge.specs.declared.Taken.{Taken}
use Rattle.gauge.specs.declared.Watch as declared
use Rattle.gauge.specs.Rule.{Watch, begun}
use Rattle.gauge.specs.Answers.{read_after, watch_of, reading_says}
use Rattle.gauge.specs.Promise.{ReadPromise}

pub record OneReading (E : Edition) : Type 0 where
  -- of a store, in either form
  pub of_store : (w : Words) (g : Watch) (a b : Taken) → ReadPromise E w g (reading_says a.answer) (watch_of a.watch)
      → ReadPromise E w g (reading_says b.answer) (watch_of b.watch) → a ≡ b
  -- by what the store told
  pub of_told : (g : Watch) (told : Answer) (a b : Taken) → (reading_says a.answer, watch_of a.watch) ≡ read_after g told
      → (reading_says b.answer, watch_of b.watch) ≡ read_after g told → a ≡ b
  -- a gauge that is begun
  pub of_begun : (a b : declared.Watch) → watch_of a ≡ begun → watch_of b ≡ begun → a ≡ b
