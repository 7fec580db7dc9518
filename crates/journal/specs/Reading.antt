-- What stands at a place of a journal, and the calls that it holds. Assumes nothing.
use Rattle.std.specs.Prelude.{◌≡◌, cond, List, [], ◌∷◌, ℕ, ◌+◌, ◌*◌, eqb, ltb, length, take, drop, Option, Some, None, Result, Ok, Err}
use Rattle.calls.specs.declared.Call.{Call}
use Rattle.calls.specs.declared.Call.TheVariants.{Take, HandBack, SetUp, Reset}
use Rattle.journal.specs.declared.entry.Broken.{Broken}
use Rattle.journal.specs.declared.entry.Broken.TheVariants.{Cut, UnknownKind, WrongLength}
use Rattle.journal.specs.declared.entry.Record.{Record}
use Rattle.journal.specs.Bytes.{number}
use Rattle.journal.specs.Writing.{body_of}

-- what stands at a place: a call, and the place of the next record; no byte; or a record that cannot be read
abbrev pub Entry : Type 0
Entry = Result (Option Record) Broken

abbrev pub Read : Call → (next : ℕ) → Entry
Read c next = Ok (Some record { call = c; next = next })

abbrev pub End : Entry
End = Ok None

abbrev pub Refused : Broken → Entry
Refused why = Err why

-- ---- of the bytes that stand from a place on: the length, the kind, and the i-th 32-bit field
unfoldable pub length_in : List ℕ → ℕ
unfolding number
length_in here = number (take 2 here)

unfoldable pub kind_in : List ℕ → ℕ
unfolding number
kind_in here = number (take 2 (drop 2 here))

unfoldable pub field_in : ℕ → List ℕ → ℕ
unfolding number
field_in i here = number (take 4 (drop (4 + 4 * i) here))

-- the call of this kind, with the fields that stand there; none where the kind is unknown
unfoldable pub call_of : (kind : ℕ) → List ℕ → Option Call
unfolding field_in
call_of kind here =
    cond (eqb kind 1) (Some (Take record { 0 = field_in 0 here }))
    (cond (eqb kind 2) (Some (HandBack record { offset = field_in 1 here; metadata = record { 0 = field_in 0 here } }))
    (cond (eqb kind 3) (Some (SetUp record { 0 = field_in 0 here } (field_in 1 here)))
    (cond (eqb kind 4) (Some Reset) None)))

-- "an unknown kind 14, a wrong length for a known kind 15": the length must be that of the call's own record
unfoldable pub judged : (named at : ℕ) → Option Call → Entry
unfolding body_of
judged named at None = Refused UnknownKind
judged named at (Some c) = cond (eqb named (length (body_of c))) (Read c (at + (2 + named))) (Refused WrongLength)

-- "A record is cut when fewer bytes stand than its length names, or fewer than four; no byte left is the end. A length below 2 counts as wrong
-- length and is tested before the kind."
unfoldable pub read_here : (here : List ℕ) → (at : ℕ) → Entry
unfolding length_in kind_in call_of judged
read_here here at =
    cond (eqb (length here) 0) End
    (cond (ltb (length here) 4) (Refused Cut)
    (cond (ltb (length here) (2 + length_in here)) (Refused Cut)
    (cond (ltb (length_in here) 2) (Refused WrongLength) (judged (length_in here) at (call_of (kind_in here) here)))))

unfoldable pub read_at : List ℕ → (at : ℕ) → Entry
unfolding read_here
read_at bytes at = read_here (drop at bytes) at

-- ---- a whole journal
-- how it ends: no byte is left, or a record is refused, which "ends the replay there, the calls before it standing"
pub data Ending : Type 0 where
  ended : Ending
  broken : Broken → Ending

-- from this place on, the journal holds these calls, and ends so
pub data Holds (bytes : List ℕ) : (at : ℕ) → List Call → Ending → Type 0 where
  no_more : {at : ℕ} → read_at bytes at ≡ End → Holds bytes at [] ended
  breaks : {at : ℕ} {why : Broken} → read_at bytes at ≡ Refused why → Holds bytes at [] (broken why)
  one_more : {at next : ℕ} {c : Call} {cs : List Call} {end : Ending} → read_at bytes at ≡ Read c next → Holds bytes next cs end
      → Holds bytes at (c ∷ cs) end
