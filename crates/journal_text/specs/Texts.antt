-- The line of a call, the line that a replay prints for an answer, and its last line where a record cannot be read; none has its newline. Assumes nothing.
use Rattle.std.specs.Prelude.{ℕ, ◌+◌, ◌≤◌, ◌≡◌, List, [], ◌∷◌, ◌++◌, length, drop, Some, None, Ok, Err}
use Rattle.std.proofs.lemmas.List.Edits.{sets}
use Rattle.ledger.specs.Figures.{refusal_of}
use Rattle.calls.specs.Values.{Answer, fields_of, says}
use Rattle.calls.specs.declared.Call.{Call}
use Rattle.calls.specs.declared.Call.TheVariants.{Take, HandBack, SetUp, Reset}
use Rattle.journal.specs.declared.entry.Broken.{Broken}
use Rattle.journal.specs.Refusals.{broken_number}
use Rattle.journal_text.specs.Decimal.{decimal, spaced}

-- the four words, in bytes: take, back, setup, reset
abbrev pub take_word : List ℕ
take_word = 116 ∷ 97 ∷ 107 ∷ 101 ∷ []

abbrev pub back_word : List ℕ
back_word = 98 ∷ 97 ∷ 99 ∷ 107 ∷ []

abbrev pub set_up_word : List ℕ
set_up_word = 115 ∷ 101 ∷ 116 ∷ 117 ∷ 112 ∷ []

abbrev pub reset_word : List ℕ
reset_word = 114 ∷ 101 ∷ 115 ∷ 101 ∷ 116 ∷ []

abbrev pub word_of : Call → List ℕ
word_of (Take size) = take_word
word_of (HandBack span) = back_word
word_of (SetUp size count) = set_up_word
word_of Reset = reset_word

-- the word, then the call's numbers: setup 100 6, take 20, back 0 0, reset
unfoldable pub text_of : Call → List ℕ
text_of c = word_of c ++ spaced (fields_of c)

-- "a granted take's offset and record"
abbrev pub figures_of : Answer → List ℕ
figures_of (Ok None) = []
figures_of (Ok (Some span)) = span.offset ∷ span.metadata.0 ∷ []
figures_of (Err why) = []

-- "refusal number or 0, then a granted take's offset and record, in decimal, a space between"
unfoldable pub answer_text : Answer → List ℕ
answer_text a = decimal (refusal_of (says a)) ++ spaced (figures_of a)

-- a refused record "ends the replay there": its number, alone on the last line
unfoldable pub broken_text : Broken → List ℕ
broken_text why = decimal (broken_number why)

-- A text put into lent bytes from a place on, where it has room, told by the place behind it; the other bytes stay.
pub record PutAt (text before : List ℕ) (at : ℕ) (after : List ℕ) (behind : ℕ) : Type 0 where
  pub told : behind ≡ at + length text
  pub room : at + length text ≤ length before
  pub left : after ≡ sets before at text

-- A text put at the front of lent bytes, told by its length; the other bytes stay.
pub record Leads (text before after : List ℕ) (told : ℕ) : Type 0 where
  pub many : told ≡ length text
  pub left : after ≡ text ++ drop (length text) before
