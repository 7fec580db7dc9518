-- Journals with what they must answer, for the base's edition and tables for 1,024 records; proofs/Answers.antt computes them. Assumes nothing.
use Rattle.std.specs.Prelude.{◌≡◌, List, [], ◌∷◌, ℕ}
use Rattle.ledger.specs.Ledger.{Answer, granted, done, refused}
use Rattle.tables.specs.Calls.{edition32}
use Rattle.calls.specs.declared.Call.{Call}
use Rattle.calls.specs.declared.Call.TheVariants.{Take, HandBack, SetUp, Reset}
use Rattle.journal.specs.Claims.{example_calls}
use Rattle.replaying.specs.Meaning.{no_store, answers_of}

abbrev pub takes : ℕ → Call
takes s = Take record { 0 = s }

abbrev pub gives_back : (o r : ℕ) → Call
gives_back o r = HandBack record { offset = o; metadata = record { 0 = r } }

abbrev pub sets_up : (size count : ℕ) → Call
sets_up size count = SetUp record { 0 = size } count

abbrev pub Answering : List Call → List Answer → Type 0
Answering calls expected = answers_of edition32 8192 1024 calls no_store ≡ expected

-- a row says what is answered, each answer in its place
pub record RowsMean : Type 0 where
  pub answering : (calls : List Call) (expected : List Answer) → Answering calls expected → answers_of edition32 8192 1024 calls no_store ≡ expected

pub record MeaningRows : Type 0 where
  -- "The example prints three lines: 0, then 0 0 0, then 0."
  pub example : Answering example_calls (done ∷ granted 0 0 ∷ done ∷ [])
  -- "calls before any setup"
  pub before_any : Answering (takes 1 ∷ gives_back 0 0 ∷ Reset ∷ []) (refused 6 ∷ refused 6 ∷ refused 6 ∷ [])
  -- "or after a refused one, get 6", whatever stood before it; until a setup is accepted
  pub after_refused : Answering
      (sets_up 100 6 ∷ takes 20 ∷ sets_up 100 1 ∷ takes 1 ∷ gives_back 0 0 ∷ Reset ∷ sets_up 100 6 ∷ takes 1 ∷ [])
      (done ∷ granted 0 0 ∷ refused 1 ∷ refused 6 ∷ refused 6 ∷ refused 6 ∷ done ∷ granted 0 0 ∷ [])
  -- "a larger good count gets 2"
  pub counts : Answering (sets_up 8 1 ∷ sets_up 8 2 ∷ sets_up 8 1024 ∷ sets_up 8 1025 ∷ sets_up 8 131072 ∷ sets_up 8 131073 ∷ sets_up 8 1048576
      ∷ sets_up 8 1048577 ∷ [])
      (refused 1 ∷ done ∷ done ∷ refused 2 ∷ refused 2 ∷ refused 2 ∷ refused 2 ∷ refused 1 ∷ [])
  -- document 01's run to follow, and a reset behind it
  pub run_to_follow : Answering
      (sets_up 100 6 ∷ takes 20 ∷ takes 30 ∷ takes 49 ∷ takes 48 ∷ gives_back 20 1 ∷ gives_back 20 1 ∷ takes 0 ∷ takes 1
      ∷ gives_back 0 0 ∷ gives_back 98 3 ∷ gives_back 50 2 ∷ Reset ∷ takes 20 ∷ [])
      (done ∷ granted 0 0 ∷ granted 20 1 ∷ refused 4 ∷ granted 50 2 ∷ done ∷ refused 5 ∷ granted 98 3 ∷ refused 3
      ∷ done ∷ done ∷ done ∷ done ∷ granted 0 0 ∷ [])
  -- "the record is live but starts elsewhere": 8, after 5, and the span is still out
  pub elsewhere : Answering
      (sets_up 100 6 ∷ takes 20 ∷ takes 30 ∷ gives_back 0 1 ∷ gives_back 30 1 ∷ gives_back 20 2 ∷ gives_back 20 1 ∷ gives_back 20 1 ∷ [])
      (done ∷ granted 0 0 ∷ granted 20 1 ∷ refused 8 ∷ refused 8 ∷ refused 5 ∷ done ∷ refused 5 ∷ [])
