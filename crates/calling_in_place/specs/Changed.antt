-- What a call of `calls` is answered, in the numbers that a row can be held against, and the words that it leaves: the model's. Assumes nothing.
use Rattle.ledger.specs.Calls as ledger
use Rattle.tables.specs.Words.{Words}
use Rattle.tables.specs.Setup.{setup_words}
use Rattle.tables.specs.Calls.{edition32, answer_words}
use Rattle.call_values.specs.declared.answer.Answer.{Answer}
use Rattle.calls.specs.declared.Call.{Call}
use Rattle.calls.specs.declared.Call.TheVariants.{Take, HandBack, SetUp, Reset}
use Rattle.calling.specs.Makes.{lent_in}
use Rattle.telling.specs.Made.{told_by}

abbrev pub changed : Call → Words → Answer × Words
changed (Take size) w = told_by (answer_words edition32 (ledger.takes size.0) w)
changed (HandBack span) w = told_by (answer_words edition32 (ledger.gives_back span.offset span.metadata.0) w)
changed (SetUp size count) w = told_by (setup_words edition32 size.0 count (lent_in w))
changed Reset w = told_by (answer_words edition32 ledger.Reset w)
