-- What a call that comes as a value is answered, and the words that it leaves: the model's, and the same in both forms but for what a setup is lent.
-- Assumes nothing.
use Rattle.std.specs.Prelude.{Option, None, Some}
use Rattle.ledger.specs.Ledger as ledger
use Rattle.ledger.specs.Calls as ledger-calls
use Rattle.tables.specs.Words.{Words}
use Rattle.tables.specs.Setup.{Lent, lent_of, tables_alone, setup_words}
use Rattle.tables.specs.Calls.{edition32, answer_words}
use Rattle.call_values.specs.declared.answer.Answer.{Answer}
use Rattle.call_values.specs.declared.answer.Answer.TheVariants.{Nothing}
use Rattle.call_values.specs.declared.call.Call.{Call}
use Rattle.call_values.specs.declared.call.Call.TheVariants as call
use Rattle.telling.specs.Told.{told, told_as, class_in, held_in}

-- an answer told, and the words beside it
abbrev pub told_by : ledger.Answer × Words → Answer × Words
told_by p = (told p.0, p.1)

-- what a setup is lent of the words: in place the head's two arrays and the tables, by value the tables alone
abbrev pub in_place : Words → Lent
in_place w = lent_of w.bin_indices w.used_bins w.nodes w.pile

abbrev pub by_value : Words → Lent
by_value w = tables_alone w.nodes w.pile

abbrev pub made : (Words → Lent) → Call → Words → Answer × Words
made lends (call.SetUp size count) w = told_by (setup_words edition32 size count (lends w))
made lends call.Reset w = told_by (answer_words edition32 ledger-calls.Reset w)
made lends (call.Take size) w = told_by (answer_words edition32 (ledger-calls.takes size) w)
made lends (call.HandBack offset number) w = told_by (answer_words edition32 (ledger-calls.gives_back offset number) w)
made lends (call.SizeOf offset number) w = told_by (answer_words edition32 (ledger-calls.asks_size offset number) w)
made lends call.Report w = told_by (answer_words edition32 (ledger-calls.Ask ledger-calls.Report) w)
made lends (call.ClassOf class) w = (told_as (class_in class) (answer_words edition32 (ledger-calls.Ask ledger-calls.FullReport) w).0, w)
made lends call.ClassesHeld w = (told_as held_in (answer_words edition32 (ledger-calls.Ask ledger-calls.FullReport) w).0, w)

-- the same of a row that asks for a call or for none: then nothing is answered, and every word stays
abbrev pub made_if : (Words → Lent) → Option Call → Words → Answer × Words
made_if lends (Some c) w = made lends c w
made_if lends None w = (Nothing, w)
