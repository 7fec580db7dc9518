-- A call that comes as a value promises what the call that it names promises. Assumes nothing.
use Rattle.std.specs.Prelude.{◌≡◌}
use Rattle.ledger.specs.Ledger.{Answer}
use Rattle.ledger.specs.Calls as ledger
use Rattle.tables.specs.Words.{Words, Edition}
use Rattle.tables.specs.Setup.{Lent, lent_of}
use Rattle.tables.specs.Promise.{Promise, SetupPromise}
use Rattle.calls.specs.declared.Call.{Call}
use Rattle.calls.specs.declared.Call.TheVariants.{Take, HandBack, SetUp, Reset}
use Rattle.calls.specs.Values as code
use Rattle.calls.specs.Values.{says}
use Rattle.records.specs.InWords.{InPlace, placed_words}

-- what a setup in place is lent of the words
abbrev pub lent_in : Words → Lent
lent_in w = lent_of w.bin_indices w.used_bins w.nodes w.pile

-- what the call that is named promises: it finds the words w, answers a and leaves the words v
abbrev pub PromiseOf : Edition → Call → (w v : Words) → Answer → Type 0
PromiseOf E (Take size) w v a = Promise E (ledger.takes size.0) w v a
PromiseOf E (HandBack span) w v a = Promise E (ledger.gives_back span.offset span.metadata.0) w v a
PromiseOf E (SetUp size count) w v a = SetupPromise E size.0 count (lent_in w) v a
PromiseOf E Reset w v a = Promise E ledger.Reset w v a

pub record Makes (E : Edition) (c : Call) (w v : Words) (a : Answer) : Type 0 where
  pub promised : PromiseOf E c w v a

-- any two outcomes that it allows coincide, and as values of the code too: answer, totals, arrays and tables; proofs/OneMade.antt makes it
pub record OneMade (E : Edition) : Type 0 where
  pub one_made : (c : Call) (w v u : Words) (a b : Answer) → Makes E c w v a → Makes E c w u b → (a ≡ b) × (v ≡ u)
  pub one_result : (c : Call) (w : Words) (a b : code.Answer) (v u : InPlace) → Makes E c w (placed_words v) (says a)
      → Makes E c w (placed_words u) (says b) → (a ≡ b) × (v ≡ u)
