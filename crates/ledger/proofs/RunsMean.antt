-- What a call holds; a run told from its last call, and its log. Assumes nothing.
use mathlib.Core.Path.{◌≡◌, refl, ap}
use mathlib.Core.Logic.{◌⊎◌, inl, inr}
use mathlib.Core.List.{List, [], ◌∷◌, ◌++◌, map}
use Prim.Native.Nat.{ℕ}
use Rattle.ledger.specs.Ledger.{Answer}
use Rattle.ledger.specs.Calls.{Token, Question, Call, Take, HandBack, Reset, Ask, takes, span_of, CallsMean}
use Rattle.ledger.proofs.Questions.{span_asked, every_question, questions_differ}
use Rattle.ledger.specs.Calls.{call_of, answer_of, end, answers, log, RunsMean}

-- ---- calls
-- the size that a call asks for, 0 where it asks for none; the span that it names, any where it names none
size_in : Call → ℕ
size_in (Take asked) = asked.size
size_in (HandBack span) = 0
size_in Reset = 0
size_in (Ask q) = 0

span_in : Call → Token
span_in (Take asked) = span_of 0 0
span_in (HandBack span) = span
span_in Reset = span_of 0 0
span_in (Ask q) = span_asked q

every_call : (c : Call)
    → ((s : ℕ) × (c ≡ takes s))
    ⊎ (((span : Token) × (c ≡ HandBack span)) ⊎ ((c ≡ Reset) ⊎ ((q : Question) × (c ≡ Ask q))))
every_call (Take asked) = inl (asked.size, refl)
every_call (HandBack span) = inr (inl (span, refl))
every_call Reset = inr (inr (inl refl))
every_call (Ask q) = inr (inr (inr (q, refl)))

pub calls_mean : CallsMean
unfolding size_in span_in span_asked
calls_mean = record {
  every_call = every_call;
  every_question = every_question;
  every_span = λ span. (span.offset, (span.number, refl));
  one_size = λ s t e. ap size_in e;
  one_span = λ s t e. ap span_in e;
  one_span_asked = λ s t e. ap span_asked e;
  one_pair = λ o p r q e. (ap (λ (span : Token). span.offset) e, ap (λ (span : Token). span.number) e);
  questions_differ = questions_differ;
}

-- ---- runs
module _ {State : Type 0} (one_call : Call → State → Answer × State) where
  end_none : (s : State) → end one_call [] s ≡ s
  unfolding end
  end_none s = refl

  pub end_last : (cs : List Call) (c : Call) (s : State) → end one_call (cs ++ (c ∷ [])) s ≡ (one_call c (end one_call cs s)).1
  unfolding end
  end_last [] c s = refl
  end_last (x ∷ cs) c s = end_last cs c (one_call x s).1

  answers_last : (cs : List Call) (c : Call) (s : State)
      → answers one_call (cs ++ (c ∷ [])) s ≡ answers one_call cs s ++ ((one_call c (end one_call cs s)).0 ∷ [])
  unfolding end answers
  answers_last [] c s = refl
  answers_last (x ∷ cs) c s = ap {B = List Answer} (λ xs. (one_call x s).0 ∷ xs) (answers_last cs c (one_call x s).1)

  log_calls : (cs : List Call) (s : State) → map call_of (log one_call cs s) ≡ cs
  unfolding log
  log_calls [] s = refl
  log_calls (c ∷ cs) s = ap {B = List Call} (λ xs. c ∷ xs) (log_calls cs (one_call c s).1)

  log_answers : (cs : List Call) (s : State) → map answer_of (log one_call cs s) ≡ answers one_call cs s
  unfolding log answers
  log_answers [] s = refl
  log_answers (c ∷ cs) s = ap {B = List Answer} (λ xs. (one_call c s).0 ∷ xs) (log_answers cs (one_call c s).1)

pub runs_mean : RunsMean
runs_mean = record {
  end_none = end_none;
  end_last = end_last;
  answers_last = answers_last;
  log_calls = log_calls;
  log_answers = log_answers;
}
