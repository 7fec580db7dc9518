-- Document 01's run to follow, the paragraph after it, and rows that catch ledgers which pass the run all the same.
-- Each is a list of calls with what a store set up so must answer; proofs/Answers.antt computes them, and proofs/SmallStores.antt proves
-- those that speak of every count. Assumes nothing.
use Rattle.std.specs.Prelude.{◌≡◌, ℕ, ◌≤◌, List, [], ◌∷◌, map}
use Rattle.ledger.specs.Ledger.{by_class, Stacks, Ledger, Answer, granted, done, length_is, reported, refused, live, free, setup, take, report}
use Rattle.ledger.specs.Calls.{Report, FullReport, Call, Reset, Ask, takes, gives_back, asks_size, Event, event, answer, end, answers, log}
use Rattle.ledger.specs.Figures.{refusal_of, in_a_row, figures_of}
use Rattle.ledger.specs.Stretch.{Stretch}
use Rattle.ledger.specs.Claims.{Reached}

-- each call's answer with the report after it
unfoldable pub follow : ℕ → ℕ → List Call → Ledger Stacks → List (Answer × (ℕ × ℕ))
unfolding answer report
follow size count [] l = []
follow size count (c ∷ cs) l =
    let a = answer by_class size count c l in
    (a.0, report by_class a.1) ∷ follow size count cs a.1

abbrev pub Answering : ℕ → ℕ → List Call → List Answer → Type 0
Answering size count calls expected = answers (answer by_class size count) calls (setup by_class size count) ≡ expected

-- a row says what is answered, each answer in its place
pub record RowsMean : Type 0 where
  pub answering : (size count : ℕ) (calls : List Call) (expected : List Answer) → Answering size count calls expected
      → answers (answer by_class size count) calls (setup by_class size count) ≡ expected

-- ---- "Size 100, count 6. Report 100, 96."
abbrev pub the_calls : List Call
the_calls =
    takes 20
    ∷ takes 30
    ∷ takes 49
    ∷ takes 48
    ∷ gives_back 20 1
    ∷ gives_back 20 1
    ∷ takes 0
    ∷ takes 1
    ∷ gives_back 0 0
    ∷ gives_back 98 3
    ∷ gives_back 50 2
    ∷ []

abbrev pub the_answers : List (Answer × (ℕ × ℕ))
the_answers =
    (granted 0 0, (80, 80))
    ∷ (granted 20 1, (50, 48))
    ∷ (refused 4, (50, 48))
    ∷ (granted 50 2, (2, 2))
    ∷ (done, (32, 30))
    ∷ (refused 5, (32, 30))
    ∷ (granted 98 3, (0, 0))
    ∷ (refused 3, (0, 0))
    ∷ (done, (52, 48))
    ∷ (done, (52, 48))
    ∷ (done, (100, 96))
    ∷ []

pub record DocumentRun : Type 0 where
  pub first_report : report by_class (setup by_class 100 6) ≡ (100, 96)
  pub the_run : follow 100 6 the_calls (setup by_class 100 6) ≡ the_answers
  -- "The one region now belongs to record 2"
  pub record_2 : (end (answer by_class 100 6) the_calls (setup by_class 100 6)).line ≡ free 100 2 ∷ []

-- ---- the sentences after the run, each over all that it speaks of
pub record SmallStores : Type 0 where
  -- "2 accepted though every take gives 3" (which counts are accepted is the setup call's to say, not the ledger's)
  pub count_2 : (size s : ℕ) (l : Ledger Stacks) → Reached by_class size 2 l → (take by_class s l).0 ≡ refused 3
  -- "With count 3 or more, a fresh store of 17 grants 16, or refuses 17"
  pub grants_16 : (count : ℕ) → 3 ≤ count → Answering 17 count (takes 16 ∷ []) (granted 0 0 ∷ [])
  pub refuses_17 : (count : ℕ) → 3 ≤ count → Answering 17 count (takes 17 ∷ []) (refused 4 ∷ [])
  -- "A fresh store of 0 with such a count grants one take of 0 and gives 4 to the next, until it is handed back."
  pub store_of_0 : (count : ℕ) → 3 ≤ count
      → Answering 0 count (takes 0 ∷ takes 0 ∷ gives_back 0 0 ∷ takes 0 ∷ []) (granted 0 0 ∷ refused 4 ∷ done ∷ granted 0 0 ∷ [])

-- ---- "Ways to get it nearly right": what the run by itself does not catch
pub record NearlyRight : Type 0 where
  -- fit tested before spares: with one spare and no region long enough the answer is 3
  pub spares_first : Answering 100 3 (takes 20 ∷ takes 1000 ∷ []) (granted 0 0 ∷ refused 3 ∷ [])
  -- a freed region put at the tail of its stack: of two of one class the last freed is granted
  pub last_freed_first : Answering 100 8 (takes 10 ∷ takes 10 ∷ takes 10 ∷ takes 10 ∷ gives_back 0 0 ∷ gives_back 20 2 ∷ takes 10 ∷ [])
      (granted 0 0 ∷ granted 10 1 ∷ granted 20 2 ∷ granted 30 3 ∷ done ∷ done ∷ granted 20 2 ∷ [])
  -- the pile's order swapped: of two merged away, the one after is taken first
  pub before_goes_first :
      Answering 100 8
      (takes 10 ∷ takes 10 ∷ takes 10 ∷ takes 10 ∷ gives_back 0 0 ∷ gives_back 20 2 ∷ gives_back 10 1 ∷ takes 5 ∷ takes 5 ∷ takes 5 ∷ [])
      (granted 0 0 ∷ granted 10 1 ∷ granted 20 2 ∷ granted 30 3 ∷ done ∷ done ∷ done ∷ granted 0 1 ∷ granted 5 2 ∷ granted 10 0 ∷ [])
  -- the merged region given the earlier record
  pub keeps_its_record : Answering 100 6 (takes 10 ∷ takes 10 ∷ takes 10 ∷ gives_back 0 0 ∷ gives_back 10 1 ∷ takes 20 ∷ [])
      (granted 0 0 ∷ granted 10 1 ∷ granted 20 2 ∷ done ∷ done ∷ granted 0 1 ∷ [])
  -- the last spare spent: count 3 has one live span at most
  pub last_spare_kept : Answering 100 3 (takes 10 ∷ takes 10 ∷ gives_back 0 0 ∷ takes 100 ∷ takes 96 ∷ [])
      (granted 0 0 ∷ refused 3 ∷ done ∷ refused 4 ∷ granted 0 0 ∷ [])
  -- the search from the rounded-down class: a region of 16 would serve 17
  pub rounded_up_lem : Answering 32 6 (takes 16 ∷ takes 17 ∷ takes 16 ∷ []) (granted 0 0 ∷ refused 4 ∷ granted 16 1 ∷ [])
  -- a reset begins anew, record numbers too
  pub reset_anew : Answering 100 6
      (takes 20 ∷ takes 30 ∷ gives_back 0 0 ∷ gives_back 20 1 ∷ Reset ∷ takes 50 ∷ asks_size 0 0 ∷ asks_size 20 1 ∷ [])
      (granted 0 0 ∷ granted 20 1 ∷ done ∷ done ∷ done ∷ granted 0 0 ∷ length_is 50 ∷ refused 5 ∷ [])

-- ---- "Sizes with no class say so"
pub record SizesWithoutClass : Type 0 where
  -- the greatest store grants 4,026,531,840 and no more, though its one region is longer
  pub in_the_greatest_store : Answering 4_294_967_295 3 (takes 4_294_967_295 ∷ takes 4_026_531_841 ∷ takes 4_026_531_840 ∷ [])
      (refused 4 ∷ refused 4 ∷ granted 0 0 ∷ [])
  -- "still refusal 4, after 3": with one spare record the answer is 3
  pub after_3 : Answering 100 3 (takes 4_294_967_295 ∷ takes 20 ∷ takes 4_294_967_295 ∷ []) (refused 4 ∷ granted 0 0 ∷ refused 3 ∷ [])

-- ---- "Zero-length spans are ordinary regions"
pub record ZeroLength : Type 0 where
  -- "two may share an offset"
  pub one_offset : Answering 100 6 (takes 0 ∷ takes 0 ∷ []) (granted 0 0 ∷ granted 0 1 ∷ [])
  -- "a live one between two free regions keeps them from merging"
  pub kept_apart : (end (answer by_class 100 6) (takes 20 ∷ takes 0 ∷ gives_back 0 0 ∷ []) (setup by_class 100 6)).line
      ≡ free 20 0 ∷ live 0 1 ∷ free 80 2 ∷ []

-- ---- "Handle and offset must agree"
pub record PairsAgree : Type 0 where
  -- "handed back record 12 with another span's address": 8, and nothing changes, so that the span's own offset still serves
  pub another's_offset : Answering 100 6
      (takes 20 ∷ takes 30 ∷ gives_back 0 1 ∷ gives_back 20 0 ∷ asks_size 0 1
      ∷ asks_size 20 1 ∷ gives_back 20 1 ∷ gives_back 0 0 ∷ takes 96 ∷ [])
      (granted 0 0 ∷ granted 20 1 ∷ refused 8 ∷ refused 8 ∷ refused 8 ∷ length_is 30 ∷ done ∷ done ∷ granted 0 0 ∷ [])
  -- "it comes after 5": a record that is not live, whatever the offset, its own last one too
  pub after_5 : Answering 100 6
      (takes 20 ∷ gives_back 20 1 ∷ gives_back 7 1 ∷ gives_back 0 9 ∷ asks_size 7 1 ∷ gives_back 0 0 ∷ gives_back 0 0 ∷ gives_back 7 0 ∷ [])
      (granted 0 0 ∷ refused 5 ∷ refused 5 ∷ refused 5 ∷ refused 5 ∷ done ∷ refused 5 ∷ refused 5 ∷ [])
  -- it is the offset that must agree: not the length, not the end, not the record's number
  pub the_offset_alone : Answering 100 6
      (takes 20 ∷ takes 30 ∷ gives_back 30 1 ∷ gives_back 50 1 ∷ gives_back 1 1
      ∷ asks_size 30 1 ∷ asks_size 50 1 ∷ asks_size 1 1 ∷ gives_back 20 1 ∷ [])
      (granted 0 0 ∷ granted 20 1 ∷ refused 8 ∷ refused 8 ∷ refused 8 ∷ refused 8 ∷ refused 8 ∷ refused 8 ∷ done ∷ [])
  -- of two spans at one offset the record tells which
  pub one_offset_twice : Answering 100 6 (takes 0 ∷ takes 20 ∷ gives_back 0 0 ∷ asks_size 0 1 ∷ gives_back 0 0 ∷ gives_back 0 1 ∷ [])
      (granted 0 0 ∷ granted 0 1 ∷ done ∷ length_is 20 ∷ refused 5 ∷ done ∷ [])
  -- "A stale pair that matches a later grant is still accepted": who handed the first span back already asks for the second one's length, and hands
  -- it back
  pub stale_pair : Answering 100 6 (takes 20 ∷ gives_back 0 0 ∷ takes 30 ∷ asks_size 0 0 ∷ gives_back 0 0 ∷ [])
      (granted 0 0 ∷ done ∷ granted 0 0 ∷ length_is 30 ∷ done ∷ [])

-- ---- numbers and figures, of each kind of call, answered and refused
abbrev pub number_and_figures : Event → ℕ × List ℕ
number_and_figures (event c a) = (refusal_of a, figures_of c a)

pub record FigureRows : Type 0 where
  pub in_a_run : map number_and_figures (log (answer by_class 100 6)
      (takes 20 ∷ takes 30 ∷ takes 49 ∷ asks_size 20 1 ∷ asks_size 0 9 ∷ asks_size 0 1 ∷ Ask Report
      ∷ gives_back 0 1 ∷ gives_back 20 1 ∷ gives_back 20 1 ∷ Reset ∷ [])
      (setup by_class 100 6))
      ≡ (0, 0 ∷ 0 ∷ []) ∷ (0, 20 ∷ 1 ∷ []) ∷ (4, 0 ∷ 0 ∷ []) ∷ (0, 30 ∷ []) ∷ (5, 0 ∷ []) ∷ (8, 0 ∷ []) ∷ (0, 50 ∷ 48 ∷ [])
      ∷ (8, []) ∷ (0, []) ∷ (5, []) ∷ (0, []) ∷ []
  -- the rows of a full report, each a value and a number
  pub of_rows : in_a_row ((16, 3) ∷ (18, 5) ∷ []) ≡ 16 ∷ 3 ∷ 18 ∷ 5 ∷ []

-- ---- demand 3 is not about nothing, and needs its 'last granted first'
pub record StretchExamples : Type 0 where
  -- a stretch, with a refused take and a report in it
  pub a_stretch : Stretch [] (log (answer by_class 100 6)
      (takes 20 ∷ takes 30 ∷ takes 99 ∷ gives_back 20 1 ∷ Ask Report ∷ gives_back 0 0 ∷ []) (setup by_class 100 6))
  -- a stretch with a take of 0 in it, each call that can be refused, with each number, and each question
  pub all_kinds : Stretch [] (log (answer by_class 100 4)
      (takes 0 ∷ asks_size 0 0 ∷ gives_back 0 0
      ∷ takes 20 ∷ takes 99 ∷ takes 30 ∷ takes 1 ∷ gives_back 50 2 ∷ gives_back 0 1 ∷ asks_size 0 9 ∷ asks_size 0 1
      ∷ Ask Report ∷ Ask FullReport ∷ gives_back 20 1 ∷ gives_back 0 0 ∷ [])
      (setup by_class 100 4))
  -- and its answers
  pub all_kinds_answers : Answering 100 4
      (takes 0 ∷ asks_size 0 0 ∷ gives_back 0 0
      ∷ takes 20 ∷ takes 99 ∷ takes 30 ∷ takes 1 ∷ gives_back 50 2 ∷ gives_back 0 1 ∷ asks_size 0 9 ∷ asks_size 0 1 ∷ Ask Report ∷ [])
      (granted 0 0 ∷ length_is 0 ∷ done
      ∷ granted 0 0 ∷ refused 4 ∷ granted 20 1 ∷ refused 3 ∷ refused 5 ∷ refused 8 ∷ refused 5 ∷ refused 8 ∷ reported 0 0 ∷ [])
  -- two spans handed back last granted first leave the ledger as it was; the later take has record 0
  pub in_order : Answering 100 6 (takes 20 ∷ takes 30 ∷ gives_back 20 1 ∷ gives_back 0 0 ∷ takes 40 ∷ [])
      (granted 0 0 ∷ granted 20 1 ∷ done ∷ done ∷ granted 0 0 ∷ [])
  -- handed back first granted first they do not: the later take has record 1
  pub out_of_order : Answering 100 6 (takes 20 ∷ takes 30 ∷ gives_back 0 0 ∷ gives_back 20 1 ∷ takes 40 ∷ [])
      (granted 0 0 ∷ granted 20 1 ∷ done ∷ done ∷ granted 0 1 ∷ [])
