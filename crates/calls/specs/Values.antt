-- A call's fields, and what an answer is in the ledger's terms: document 01's number and figures for each of its cases. Assumes nothing.
use Rattle.std.specs.Prelude.{◌≡◌, List, [], ◌∷◌, ℕ, ◌^◌, ◌<◌, Option, Some, None, Result, Ok, Err}
use Rattle.ledger.specs.Ledger as ledger
use Rattle.answers.specs.declared.Allocation.{Allocation}
use Rattle.answers.specs.declared.Refusal.{Refusal}
use Rattle.answers.specs.Answers as answers
use Rattle.calls.specs.declared.Call.{Call}
use Rattle.calls.specs.declared.Call.TheVariants.{Take, HandBack, SetUp, Reset}

-- the numbers that a call holds, in their order; of a span its record, then where it starts
abbrev pub fields_of : Call → List ℕ
fields_of (Take size) = size.0 ∷ []
fields_of (HandBack span) = span.metadata.0 ∷ span.offset ∷ []
fields_of (SetUp size count) = size.0 ∷ count ∷ []
fields_of Reset = []

-- each of them is a 32-bit number
abbrev pub AllFit : List ℕ → Type 0
AllFit [] = Unit
AllFit (n ∷ ns) = (n < 2 ^ 32) × AllFit ns

abbrev pub Fits : Call → Type 0
Fits c = AllFit (fields_of c)

-- what any of them answers: done with nothing to give, a granted span, or a refusal
abbrev pub Answer : Type 0
Answer = Result (Option Allocation) Refusal

abbrev pub Done : Answer
Done = Ok None

abbrev pub Granted : Allocation → Answer
Granted span = Ok (Some span)

abbrev pub Refused : Refusal → Answer
Refused why = Err why

abbrev pub says : Answer → ledger.Answer
says = answers.says answers.span_or_done

-- an answer is given by what it says; proofs/OneValue.antt makes it
pub record OneValue : Type 0 where
  pub of_any : (a b : Answer) → says a ≡ says b → a ≡ b
