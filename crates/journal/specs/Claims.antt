-- What is claimed of the format: one record, which proofs/Claims.antt makes. Assumes nothing.
use Rattle.std.specs.Prelude.{◌≡◌, ◌≢◌, List, [], ◌∷◌, ◌++◌, ℕ, ◌+◌, ◌^◌, ◌≤◌, ◌<◌, length, take, drop, get_or, Some, None, Ok, Err}
use Rattle.calls.specs.declared.Call.{Call}
use Rattle.calls.specs.declared.Call.TheVariants.{Take, HandBack, SetUp, Reset}
use Rattle.calls.specs.Values.{Fits}
use Rattle.journal.specs.declared.entry.Broken.TheVariants.{Cut, UnknownKind, WrongLength}
use Rattle.journal.specs.Bytes.{AllBytes}
use Rattle.journal.specs.Refusals.{Wrote}
use Rattle.journal.specs.Writing.{kind_of, record_of, journal_of, Written}
use Rattle.journal.specs.Reading.{length_in, kind_in, Entry, Read, End, Refused, read_at, Ending, ended, Holds}

-- each call's fields are 32-bit numbers
abbrev pub AllCallsFit : List Call → Type 0
AllCallsFit [] = Unit
AllCallsFit (c ∷ cs) = Fits c × AllCallsFit cs

-- "Setup of 100 with 6, take 20, hand back 0 is, whole: 0A 00 03 00 64 00 00 00 06 00 00 00 06 00 01 00 14 00 00 00 06 00 02 00 00 00 00 00." Request 3
-- amends it: hand back 0 at offset 0 is 0A 00 02 00 00 00 00 00 00 00 00 00.
abbrev pub example_calls : List Call
example_calls = SetUp record { 0 = 100 } 6 ∷ Take record { 0 = 20 } ∷ HandBack record { offset = 0; metadata = record { 0 = 0 } } ∷ []

abbrev pub example_bytes : List ℕ
example_bytes =
    10 ∷ 0 ∷ 3 ∷ 0 ∷ 100 ∷ 0 ∷ 0 ∷ 0 ∷ 6 ∷ 0 ∷ 0 ∷ 0
    ∷ 6 ∷ 0 ∷ 1 ∷ 0 ∷ 20 ∷ 0 ∷ 0 ∷ 0
    ∷ 10 ∷ 0 ∷ 2 ∷ 0 ∷ 0 ∷ 0 ∷ 0 ∷ 0 ∷ 0 ∷ 0 ∷ 0 ∷ 0 ∷ []

-- the most bytes that a record's reading can hang on: a length of 65,535, and its own two bytes
abbrev pub window : ℕ
window = 65537

-- all the bytes that its length names stand there, and at least four
abbrev pub Whole : List ℕ → (at : ℕ) → Type 0
Whole bytes at = (at + 4 ≤ length bytes) × (at + (2 + length_in (drop at bytes)) ≤ length bytes)

-- what stands at a place, told for a place that lies so much further on
abbrev pub moved_on : ℕ → Entry → Entry
moved_on k (Ok (Some found)) = Read found.call (k + found.next)
moved_on k (Ok None) = End
moved_on k (Err why) = Refused why

-- "tried in that order": bytes with what stands at their beginning
pub record OrderRows : Type 0 where
  pub nothing : read_at [] 0 ≡ End
  pub three_bytes : read_at (0 ∷ 0 ∷ 0 ∷ []) 0 ≡ Refused Cut
  pub cut_of_no_kind : read_at (3 ∷ 0 ∷ 9 ∷ 0 ∷ []) 0 ≡ Refused Cut
  pub cut_and_too_long : read_at (7 ∷ 0 ∷ 1 ∷ 0 ∷ 0 ∷ 0 ∷ 0 ∷ 0 ∷ []) 0 ≡ Refused Cut
  pub length_1_of_no_kind : read_at (1 ∷ 0 ∷ 9 ∷ 0 ∷ []) 0 ≡ Refused WrongLength
  pub kind_0 : read_at (2 ∷ 0 ∷ 0 ∷ 0 ∷ []) 0 ≡ Refused UnknownKind
  pub kind_5 : read_at (2 ∷ 0 ∷ 5 ∷ 0 ∷ []) 0 ≡ Refused UnknownKind
  pub kind_257 : read_at (6 ∷ 0 ∷ 1 ∷ 1 ∷ 0 ∷ 0 ∷ 0 ∷ 0 ∷ []) 0 ≡ Refused UnknownKind
  pub too_short : read_at (2 ∷ 0 ∷ 1 ∷ 0 ∷ []) 0 ≡ Refused WrongLength
  pub too_long : read_at (6 ∷ 0 ∷ 4 ∷ 0 ∷ 0 ∷ 0 ∷ 0 ∷ 0 ∷ []) 0 ≡ Refused WrongLength
  -- a hand-back without its offset, and with it: the record, then the offset
  pub record_alone : read_at (6 ∷ 0 ∷ 2 ∷ 0 ∷ 7 ∷ 0 ∷ 0 ∷ 0 ∷ []) 0 ≡ Refused WrongLength
  pub a_hand_back : read_at (10 ∷ 0 ∷ 2 ∷ 0 ∷ 7 ∷ 0 ∷ 0 ∷ 0 ∷ 9 ∷ 0 ∷ 0 ∷ 0 ∷ []) 0
      ≡ Read (HandBack record { offset = 9; metadata = record { 0 = 7 } }) 12
  pub a_reset : read_at (9 ∷ 2 ∷ 0 ∷ 4 ∷ 0 ∷ 7 ∷ []) 1 ≡ Read Reset 5

pub record JournalClaims : Type 0 where
  -- the request's example
  pub example : journal_of example_calls ≡ example_bytes
  -- ---- "Reading back what was written gives the same calls"
  pub reads_back : (c : Call) → Fits c → (before after : List ℕ)
      → read_at (before ++ (record_of c ++ after)) (length before) ≡ Read c (length before + length (record_of c))
  pub written_holds : (cs : List Call) → AllCallsFit cs → Holds (journal_of cs) 0 cs ended
  -- and what is read as a call is, byte for byte, what the writer writes for it: of a record, and of a journal up to where it ends
  pub was_written : (bytes : List ℕ) (at next : ℕ) (c : Call) → AllBytes bytes → read_at bytes at ≡ Read c next
      → (take (length (record_of c)) (drop at bytes) ≡ record_of c) × (next ≡ at + length (record_of c)) × (next ≤ length bytes) × Fits c
  pub held_was_written : (bytes : List ℕ) (at : ℕ) (cs : List Call) (end : Ending) → AllBytes bytes → Holds bytes at cs end
      → (rest : List ℕ) × (drop at bytes ≡ journal_of cs ++ rest) × (end ≡ ended → rest ≡ []) × AllCallsFit cs
  -- ---- every list of bytes holds some calls and ends, in one way
  pub holds_some : (bytes : List ℕ) (at : ℕ) → (cs : List Call) × (end : Ending) × Holds bytes at cs end
  pub holds_one : (bytes : List ℕ) (at : ℕ) (cs ds : List Call) (end other : Ending) → Holds bytes at cs end → Holds bytes at ds other
      → (cs ≡ ds) × (end ≡ other)
  -- ---- the end and the refusals, in document 02's order, of the bytes that are left: each test stands behind the ones before it
  pub the_end : (bytes : List ℕ) (at : ℕ) → length bytes ≤ at → read_at bytes at ≡ End
  pub too_few : (bytes : List ℕ) (at : ℕ) → at < length bytes → length bytes < at + 4 → read_at bytes at ≡ Refused Cut
  pub cut_short : (bytes : List ℕ) (at : ℕ) → at + 4 ≤ length bytes → length bytes < at + (2 + length_in (drop at bytes))
      → read_at bytes at ≡ Refused Cut
  pub length_below_2 : (bytes : List ℕ) (at : ℕ) → Whole bytes at → length_in (drop at bytes) < 2 → read_at bytes at ≡ Refused WrongLength
  pub unknown_kind : (bytes : List ℕ) (at : ℕ) → Whole bytes at → 2 ≤ length_in (drop at bytes)
      → ((c : Call) → kind_in (drop at bytes) ≢ kind_of c)
      → read_at bytes at ≡ Refused UnknownKind
  pub wrong_length : (bytes : List ℕ) (at : ℕ) (c : Call) → Whole bytes at → 2 ≤ length_in (drop at bytes) → kind_in (drop at bytes) ≡ kind_of c
      → 2 + length_in (drop at bytes) ≢ length (record_of c) → read_at bytes at ≡ Refused WrongLength
  -- and a record that stands there and is not cut is whole
  pub whole_exactly : (bytes : List ℕ) (at : ℕ) → at < length bytes → read_at bytes at ≢ Refused Cut → Whole bytes at
  -- ---- a reader may look at part of a journal only: what stands behind as many bytes as a record can have sways nothing, and neither does what
  -- was read before
  pub windowed : (bytes more : List ℕ) (at : ℕ) → AllBytes bytes → at + window ≤ length bytes → read_at (bytes ++ more) at ≡ read_at bytes at
  -- and no fewer bytes would do: one less, and what stands behind them sways the reading
  pub all_needed : (bytes : List ℕ) × (more : List ℕ) × AllBytes bytes × (length bytes + 1 ≡ window) × (read_at (bytes ++ more) 0 ≢ read_at bytes 0)
  pub slid : (before bytes : List ℕ) (at : ℕ) → read_at (before ++ bytes) (length before + at) ≡ moved_on (length before) (read_at bytes at)
  -- ---- numbers below 256 are bytes, and every call whose numbers are below 2^32 fits, so that what is claimed of them is claimed of all
  pub are_bytes : (bytes : List ℕ) → ((i : ℕ) → i < length bytes → get_or bytes i 0 < 256) → AllBytes bytes
  pub take_fits : (n : ℕ) → n < 2 ^ 32 → Fits (Take record { 0 = n })
  pub hand_back_fits : (n m : ℕ) → n < 2 ^ 32 → m < 2 ^ 32 → Fits (HandBack record { offset = m; metadata = record { 0 = n } })
  pub setup_fits : (n m : ℕ) → n < 2 ^ 32 → m < 2 ^ 32 → Fits (SetUp record { 0 = n } m)
  pub reset_fits : Fits Reset
  -- ---- any two outcomes that the writer's statement allows coincide
  pub one_writing : (c : Call) (before : List ℕ) (at : ℕ) (a b : Wrote) (left other : List ℕ) → Written c before at a left
      → Written c before at b other → (a ≡ b) × (left ≡ other)
