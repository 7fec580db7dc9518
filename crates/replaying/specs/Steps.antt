-- What comes of one record of a journal: a call is made and answered, or nothing is done. Assumes nothing.
use Rattle.std.specs.Prelude.{◌≡◌, ℕ, Option, Some, None, Result, Ok, Err}
use Rattle.tables.specs.Words.{Words, Edition}
use Rattle.calls.specs.declared.Call.{Call}
use Rattle.calls.specs.Values.{Answer, says}
use Rattle.calling.specs.Makes.{Makes}
use Rattle.journal.specs.declared.entry.Broken.{Broken}
use Rattle.journal.specs.Reading.{Entry}
use Rattle.journal.specs.Reading as entry
use Rattle.replaying.specs.declared.Made.{Made}

-- what comes of it: the call's answer, and the place of the next record; no byte was left; or no call could be read, and the replay ends there
abbrev pub Outcome : Type 0
Outcome = Result (Option Made) Broken

abbrev pub Answered : Answer → (next : ℕ) → Outcome
Answered a next = Ok (Some record { answer = a; next = next })

abbrev pub AtEnd : Outcome
AtEnd = Ok None

abbrev pub BrokenOff : Broken → Outcome
BrokenOff why = Err why

-- it finds the words w and leaves the words v; this stands at the place, and that comes of it
pub data Steps (E : Edition) (w v : Words) : Entry → Outcome → Type 0 where
  answered : {c : Call} {next : ℕ} {a : Answer} → Makes E c w v (says a) → Steps E w v (entry.Read c next) (Answered a next)
  at_end : v ≡ w → Steps E w v entry.End AtEnd
  broken_off : {why : Broken} → v ≡ w → Steps E w v (entry.Refused why) (BrokenOff why)
