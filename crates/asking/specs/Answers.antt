-- What the questions answer, in the ledger's terms. Assumes nothing.
use Rattle.std.specs.Prelude.{◌≡◌, ◌↔◌}
use Rattle.ledger.specs.Ledger.{Answer}
use Rattle.ledger.specs.Calls.{Question, Ask}
use Rattle.tables.specs.Words.{Words}
use Rattle.tables.specs.Calls.{edition32, answer_words}
use Rattle.tables.specs.Promise.{Promise}

-- the question q on the words w is answered a, and every word stays, with all that a call promises
abbrev pub Asked : Answer → Question → Words → Type 0
Asked a q w = Promise edition32 (Ask q) w w a

-- told from the other side; proofs/Asked.antt makes it
pub record AskedMeans : Type 0 where
  -- no answer is promised but the model's, and that one is
  pub asked_exactly : (a : Answer) (q : Question) (w : Words) → Asked a q w ↔ ((a, w) ≡ answer_words edition32 (Ask q) w)
