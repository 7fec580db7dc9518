-- What the definitions beside this file give a reader to rely on. One record, which proofs/Facts.antt makes. Assumes nothing.
use Rattle.std.specs.Prelude.{ℕ, ◌≤◌, ◌<◌, ◌≡◌, ◌≢◌, List, length, get_or}
use Rattle.calls.specs.Values.{Answer, Fits}
use Rattle.calls.specs.declared.Call.{Call}
use Rattle.journal.specs.declared.entry.Broken.{Broken}
use Rattle.journal_text.specs.Decimal.{decimal}
use Rattle.journal_text.specs.Texts.{text_of, answer_text, broken_text, Leads}
use Rattle.journal_text.specs.Lines.{Line, Holds, made_on, line_in}

-- digits, 0 to 9, and one at least
abbrev pub Digits : List ℕ → Type 0
Digits text = (1 ≤ length text) × ((i : ℕ) → i < length text → (48 ≤ get_or text i 0) × (get_or text i 0 ≤ 57))

-- no zero stands in front of other digits
abbrev pub NoZeroInFront : List ℕ → Type 0
NoZeroInFront text = get_or text 0 0 ≡ 48 → length text ≡ 1

pub record TextFacts : Type 0 where
  -- a number in decimal, from the other side: digits that make it up, without a zero in front; and no others do
  pub digits_only : (n : ℕ) → Digits (decimal n)
  pub no_zero_in_front : (n : ℕ) → NoZeroInFront (decimal n)
  pub makes_up : (n : ℕ) → made_on 0 (decimal n) ≡ n
  pub no_others : (text : List ℕ) → Digits text → NoZeroInFront text → text ≡ decimal (made_on 0 text)
  -- a call is read from its line, so that two calls with one line are one
  pub reads_back : (c : Call) → Fits c → line_in (text_of c) ≡ Holds c
  pub one_text : (c d : Call) → Fits c → Fits d → text_of c ≡ text_of d → c ≡ d
  -- whatever call is read from a line, its fields have 32 bits
  pub reads_fitting : (text : List ℕ) (c : Call) → line_in text ≡ Holds c → Fits c
  -- two answers with one line are one
  pub one_answer : (a b : Answer) → answer_text a ≡ answer_text b → a ≡ b
  -- nor is a last line an answer's; and what it was refused for is told by it
  pub last_is_no_answer : (why : Broken) (a : Answer) → broken_text why ≢ answer_text a
  pub one_last : (why other : Broken) → broken_text why ≡ broken_text other → why ≡ other
  -- any two results that a contract allows coincide
  pub one_line_put : {text before after other : List ℕ} {n m : ℕ} → Leads text before after n → Leads text before other m → (n ≡ m) × (after ≡ other)
  pub one_line_read : (text : List ℕ) (r s : Line) → r ≡ line_in text → s ≡ line_in text → r ≡ s
