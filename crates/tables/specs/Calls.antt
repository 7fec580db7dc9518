-- Every call on words under the ledger's one type of calls. Assumes nothing.
use Rattle.ledger.specs.Ledger.{Answer, done}
use Rattle.ledger.specs.Calls.{Call, Take, HandBack, Reset, Ask}
use Rattle.tables.specs.Words.{Words, Edition}
use Rattle.tables.specs.Gate.{gate_of, gated}
use Rattle.tables.specs.Setup.{fresh}
use Rattle.tables.specs.Take.{plan_take, do_take}
use Rattle.tables.specs.HandBack.{plan_back, do_back}
use Rattle.tables.specs.Questions.{told_by}

-- the edition of the base: 32-bit links, 1,048,576 records, any 32-bit size
abbrev pub edition32 : Edition
edition32 = record { none = 4294967295; limit = 1048576; greatest = 4294967295; small = lib.Dec.lit≤ tt; fits = lib.Dec.lit≤ tt }

module _ (E : Edition) where
  -- what a call does once its gate is open: a plan and its commit; everything anew; a question leaves every word
  unfoldable pub behind : Call → Words → Answer × Words
  unfolding plan_take do_take plan_back do_back fresh told_by
  behind (Take asked) w = do_take E w asked.size (plan_take w asked.size)
  behind (HandBack span) w = do_back E w span.number (plan_back w span)
  behind Reset w = (done, fresh E w.size w.count w.nodes w.pile)
  behind (Ask q) w = (told_by w q, w)

  -- every call stands behind the same gate
  unfoldable pub answer_words : Call → Words → Answer × Words
  unfolding gated gate_of behind
  answer_words c w = gated (gate_of E w) w (behind c w)
