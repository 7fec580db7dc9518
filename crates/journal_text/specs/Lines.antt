-- What a line holds: the word of a call and exactly its numbers; nothing; or no call, and why. Assumes nothing.
use Rattle.std.specs.Prelude.{ℕ, ◌+◌, ◌-◌, ◌*◌, ◌^◌, cond, List, [], ◌∷◌, eqb, ltb, length, get_or, Option, Some, None, Result, Ok, Err}
use Rattle.calls.specs.declared.Call.{Call}
use Rattle.calls.specs.declared.Call.TheVariants.{Take, HandBack, SetUp, Reset}
use Rattle.journal_text.specs.declared.line.Fault.{Fault}
use Rattle.journal_text.specs.declared.line.Fault.TheVariants.{UnknownWord, MissingNumber, NotANumber, TooLarge, TooMuch}
use Rattle.journal_text.specs.Texts.{take_word, back_word, set_up_word, reset_word}
use Rattle.journal_text.specs.Words.{is_digit, leading, only_blanks, trimmed, word_in, behind_word, same}

-- what a line holds: a call; nothing but blanks, or a comment; or no call, and why
abbrev pub Line : Type 0
Line = Result (Option Call) Fault

abbrev pub Holds : Call → Line
Holds c = Ok (Some c)

abbrev pub Blank : Line
Blank = Ok None

abbrev pub Bad : Fault → Line
Bad why = Err why

-- a word that is wanted to be a number
abbrev pub Value : Type 0
Value = Result ℕ Fault

abbrev pub Is : ℕ → Value
Is n = Ok n

abbrev pub Wrong : Fault → Value
Wrong why = Err why

-- the number that digits make: each of them makes what was there ten times as large, and adds itself
unfoldable pub made_on : ℕ → List ℕ → ℕ
made_on n [] = n
made_on n (b ∷ bs) = made_on (10 * n + (b - 48)) bs

-- it must be one of 32 bits
unfoldable pub valued : ℕ → Value
valued n = cond (ltb n (2 ^ 32)) (Is n) (Wrong TooLarge)

-- a word as a number: one digit or more, also with zeros in front
unfoldable pub number_of : List ℕ → Value
unfolding valued
number_of word =
    cond (eqb (length word) 0) (Wrong MissingNumber)
    (cond (eqb (leading is_digit word) (length word)) (valued (made_on 0 word)) (Wrong NotANumber))

-- a number with nothing behind it
unfoldable pub ended : Value → (behind : List ℕ) → Value
ended (Ok n) behind = cond (only_blanks behind) (Is n) (Wrong TooMuch)
ended (Err why) behind = Wrong why

unfoldable pub last_number : List ℕ → Value
unfolding number_of ended
last_number text = ended (number_of (word_in text)) (behind_word text)

-- the call with that number
unfoldable pub holds : (ℕ → Call) → Value → Line
holds call (Ok n) = Holds (call n)
holds call (Err why) = Bad why

-- and with two of them: a setup's size, then its count; a span's record, then where it starts
unfoldable pub holds_two : (ℕ → ℕ → Call) → Value → (behind : List ℕ) → Line
unfolding holds last_number
holds_two call (Ok n) behind = holds (call n) (last_number behind)
holds_two call (Err why) behind = Bad why

-- a reset has no number
unfoldable pub resets : (behind : List ℕ) → Line
resets behind = cond (only_blanks behind) (Holds Reset) (Bad TooMuch)

-- by the first word, and what stands behind it
unfoldable pub call_in : (word behind : List ℕ) → Line
unfolding holds last_number holds_two resets
call_in word behind =
    cond (same word set_up_word) (holds_two (λ size count. SetUp record { 0 = size } count) (number_of (word_in behind)) (behind_word behind))
    (cond (same word take_word) (holds (λ size. Take record { 0 = size }) (last_number behind))
    (cond (same word back_word)
    (holds_two (λ handle offset. HandBack record { offset = offset; metadata = record { 0 = handle } }) (number_of (word_in behind)) (behind_word behind))
    (cond (same word reset_word) (resets behind)
    (Bad UnknownWord))))

-- nothing, or a comment, which begins with #; else a call
unfoldable pub line_in : List ℕ → Line
unfolding call_in
line_in bytes =
    cond (only_blanks bytes) Blank (cond (eqb (get_or (trimmed bytes) 0 0) 35) Blank (call_in (word_in bytes) (behind_word bytes)))
