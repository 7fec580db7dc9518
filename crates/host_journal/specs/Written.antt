-- A call as three numbers, and what comes of writing it. Assumes nothing.
use Rattle.std.specs.Prelude.{◌≡◌, cond, List, ℕ, eqb, Option, Some, None, Ok, Err}
use Rattle.calls.specs.declared.Call.{Call}
use Rattle.calls.specs.declared.Call.TheVariants.{Take, HandBack, SetUp, Reset}
use Rattle.journal.specs.declared.entry.Broken.TheVariants.{UnknownKind}
use Rattle.journal.specs.Refusals.{Wrote, broken_number}
use Rattle.journal.specs.Writing.{Written}
use Rattle.host_journal.specs.declared.writing.Wrote as flat

-- the call of this kind with these fields, of a span its record first; a field that the kind has not says nothing. None where the kind is unknown
unfoldable pub named : (kind first second : ℕ) → Option Call
named kind first second =
    cond (eqb kind 1) (Some (Take record { 0 = first }))
    (cond (eqb kind 2) (Some (HandBack record { offset = second; metadata = record { 0 = first } }))
    (cond (eqb kind 3) (Some (SetUp record { 0 = first } second)) (cond (eqb kind 4) (Some Reset) None)))

-- a call's record is written at a place, or not for want of room; what names no call changes nothing
pub data Writes (before : List ℕ) (at : ℕ) (after : List ℕ) : Option Call → Option Wrote → Type 0 where
  written : {c : Call} {answer : Wrote} → Written c before at answer after → Writes before at after (Some c) (Some answer)
  no_call : after ≡ before → Writes before at after None None

abbrev pub flat_wrote : Wrote → flat.Wrote
flat_wrote (Ok next) = record { number = 0; next = next }
flat_wrote (Err full) = record { number = 16; next = 0 }

abbrev pub wrote_told : Option Wrote → flat.Wrote
wrote_told (Some answer) = flat_wrote answer
wrote_told None = record { number = broken_number UnknownKind; next = 0 }
