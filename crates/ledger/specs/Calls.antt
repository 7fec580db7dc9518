-- One type of calls, and runs of them with their answers. Assumes nothing.
use Rattle.std.specs.Prelude.{◌≡◌, ℕ, ◌⊎◌, ◌≢◌, List, [], ◌∷◌, ◌++◌, map}
use Rattle.ledger.specs.Ledger.{Engine, Ledger, Answer, done, reported, classes, setup, take, hand_back, size_of, report, full_report}
use Rattle.ledger.specs.Fill.{live_units, fill_of}

-- what a take asks for
pub record Request : Type 0 where
  pub size : ℕ

-- how a caller names a span again: where it starts, and its record
pub record Token : Type 0 where
  pub offset : ℕ
  pub number : ℕ

-- calls that change nothing
pub data Question : Type 0 where
  SizeOf : Token → Question
  Report : Question
  FullReport : Question
  Fill : Question

-- how many figures a question returns: a length, the report's two, a value and a number for each class from 0 to 255, the live units and the fill
abbrev pub figures_told : Question → ℕ
figures_told (SizeOf span) = 1
figures_told Report = 2
figures_told FullReport = 512
figures_told Fill = 2

pub data Call : Type 0 where
  Take : Request → Call
  HandBack : Token → Call
  Reset : Call
  Ask : Question → Call

-- calls as rows and examples write them
abbrev pub takes : (s : ℕ) → Call
takes s = Take record { size = s }

-- the span that was granted at this offset under this record, named again
abbrev pub span_of : (o r : ℕ) → Token
span_of o r = record { offset = o; number = r }

abbrev pub gives_back : (o r : ℕ) → Call
gives_back o r = HandBack (span_of o r)

abbrev pub asks_size : (o r : ℕ) → Call
asks_size o r = Ask (SizeOf (span_of o r))

-- no two questions that name no span are one
abbrev pub QuestionsDiffer : Type 0
QuestionsDiffer = (Report ≢ FullReport) × (Report ≢ Fill) × (FullReport ≢ Fill)

-- what a call holds, told from the other side: each is one of these, and no size, no offset and no record that it names is lost.
-- proofs/RunsMean.antt makes it
pub record CallsMean : Type 0 where
  pub every_call : (c : Call)
      → ((s : ℕ) × (c ≡ takes s))
      ⊎ (((span : Token) × (c ≡ HandBack span)) ⊎ ((c ≡ Reset) ⊎ ((q : Question) × (c ≡ Ask q))))
  pub every_question : (q : Question) → ((span : Token) × (q ≡ SizeOf span)) ⊎ ((q ≡ Report) ⊎ ((q ≡ FullReport) ⊎ (q ≡ Fill)))
  pub every_span : (span : Token) → (o : ℕ) × ((r : ℕ) × (span ≡ span_of o r))
  pub one_size : (s t : ℕ) → takes s ≡ takes t → s ≡ t
  pub one_span : (s t : Token) → HandBack s ≡ HandBack t → s ≡ t
  pub one_span_asked : (s t : Token) → SizeOf s ≡ SizeOf t → s ≡ t
  pub one_pair : (o p r q : ℕ) → span_of o r ≡ span_of p q → (o ≡ p) × (r ≡ q)
  pub questions_differ : QuestionsDiffer

-- a call with its answer
pub data Event : Type 0 where
  event : Call → Answer → Event

abbrev pub call_of : Event → Call
call_of (event c a) = c

abbrev pub answer_of : Event → Answer
answer_of (event c a) = a

-- a span named again is handed back by its offset and its record
abbrev pub hands_back : (E : Engine) → Token → Ledger E.Index → Answer × Ledger E.Index
hands_back E span l = hand_back E span.offset span.number l

-- a store set up with this size and this count of records, under this engine
module _ (E : Engine) (size count : ℕ) where
  unfoldable pub told : Question → Ledger E.Index → Answer
  unfolding size_of report fill_of
  told (SizeOf span) l = size_of span.offset span.number l
  told Report l = reported (report E l).0 (report E l).1
  told FullReport l = classes (full_report E l)
  told Fill l = reported (live_units l) (fill_of (live_units l) size)

  -- the answer, and the ledger after it
  unfoldable pub answer : Call → Ledger E.Index → Answer × Ledger E.Index
  unfolding take hand_back told setup
  answer (Take asked) l = take E asked.size l
  answer (HandBack span) l = hands_back E span l
  answer Reset l = (done, setup E size count)
  answer (Ask q) l = (told q l, l)

-- ---- a run of calls on whatever answers a call and is left otherwise by it, a ledger here and words above: what it leaves, its answers, and its log of
-- calls with their answers
module _ {State : Type 0} (one_call : Call → State → Answer × State) where
  unfoldable pub end : List Call → State → State
  end [] s = s
  end (c ∷ cs) s = end cs (one_call c s).1

  unfoldable pub answers : List Call → State → List Answer
  answers [] s = []
  answers (c ∷ cs) s = (one_call c s).0 ∷ answers cs (one_call c s).1

  unfoldable pub log : List Call → State → List Event
  log [] s = []
  log (c ∷ cs) s = event c (one_call c s).0 ∷ log cs (one_call c s).1

-- a run told from its last call: what it leaves and answers there; its log has its calls and its answers. proofs/RunsMean.antt makes it
pub record RunsMean : Type 1 where
  pub end_none : {State : Type 0} (one_call : Call → State → Answer × State) (s : State) → end one_call [] s ≡ s
  pub end_last : {State : Type 0} (one_call : Call → State → Answer × State) (cs : List Call) (c : Call) (s : State)
      → end one_call (cs ++ (c ∷ [])) s ≡ (one_call c (end one_call cs s)).1
  pub answers_last : {State : Type 0} (one_call : Call → State → Answer × State) (cs : List Call) (c : Call) (s : State)
      → answers one_call (cs ++ (c ∷ [])) s ≡ answers one_call cs s ++ ((one_call c (end one_call cs s)).0 ∷ [])
  pub log_calls : {State : Type 0} (one_call : Call → State → Answer × State) (cs : List Call) (s : State) → map call_of (log one_call cs s) ≡ cs
  pub log_answers : {State : Type 0} (one_call : Call → State → Answer × State) (cs : List Call) (s : State)
      → map answer_of (log one_call cs s) ≡ answers one_call cs s
