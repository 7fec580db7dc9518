-- A step of a replay, in plain numbers. Assumes nothing.
use Rattle.std.specs.Prelude.{ℕ, Some, None, Ok, Err}
use Rattle.answers.specs.Refusals.{number_of}
use Rattle.calls.specs.Values.{Answer}
use Rattle.journal.specs.Refusals.{broken_number}
use Rattle.replaying.specs.Steps.{Outcome}
use Rattle.host_journal.specs.declared.stepping.Step.{Step}

-- a call was made and answered
abbrev pub made : (number granted offset handle next : ℕ) → Step
made number granted offset handle next = record {
  ended = 0;
  broken = 0;
  number = number;
  granted = granted;
  offset = offset;
  handle = handle;
  next = next;
}

abbrev pub answer_told : Answer → (next : ℕ) → Step
answer_told (Ok None) next = made 0 0 0 0 next
answer_told (Ok (Some span)) next = made 0 1 span.offset span.metadata.0 next
answer_told (Err why) next = made (number_of why) 0 0 0 next

-- none was
abbrev pub stopped_told : (ended broken : ℕ) → Step
stopped_told ended broken = record { ended = ended; broken = broken; number = 0; granted = 0; offset = 0; handle = 0; next = 0 }

abbrev pub step_told : Outcome → Step
step_told (Ok (Some made)) = answer_told made.answer made.next
step_told (Ok None) = stopped_told 1 0
step_told (Err why) = stopped_told 0 (broken_number why)
