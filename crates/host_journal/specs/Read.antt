-- What stands at a place of a journal, in plain numbers. Assumes nothing.
use Rattle.std.specs.Prelude.{ℕ, get_or, Some, None, Ok, Err}
use Rattle.calls.specs.declared.Call.{Call}
use Rattle.calls.specs.Values.{fields_of}
use Rattle.journal.specs.Reading.{Entry}
use Rattle.journal.specs.Refusals.{broken_number}
use Rattle.journal.specs.Writing.{kind_of}
use Rattle.host_journal.specs.declared.reading.Entry as flat

-- a call's fields in their order, 0 where it has fewer
abbrev pub first_of : Call → ℕ
first_of c = get_or (fields_of c) 0 0

abbrev pub second_of : Call → ℕ
second_of c = get_or (fields_of c) 1 0

abbrev pub call_told : Call → (next : ℕ) → flat.Entry
call_told c next = record { number = 0; kind = kind_of c; first = first_of c; second = second_of c; next = next }

abbrev pub no_call : (number : ℕ) → flat.Entry
no_call number = record { number = number; kind = 0; first = 0; second = 0; next = 0 }

abbrev pub entry_told : Entry → flat.Entry
entry_told (Ok (Some found)) = call_told found.call found.next
entry_told (Ok None) = no_call 0
entry_told (Err why) = no_call (broken_number why)
