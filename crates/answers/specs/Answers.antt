-- What each answer of the code is in the ledger's terms: document 01's number and figures for each of its cases. Assumes nothing.
use Rattle.std.specs.Prelude.{◌≡◌, List, map, ℕ, length, get_or, replicate, Option, Some, None, Result, Ok, Err}
use Rattle.ledger.specs.Ledger.{Answer, granted, done, length_is, reported, classes, refused, numbers_from}
use Rattle.small_float.specs.declared.Size.{Size}
use Rattle.answers.specs.declared.Refusal.{Refusal}
use Rattle.answers.specs.declared.Allocation.{Allocation}
use Rattle.answers.specs.declared.StorageReport.{StorageReport}
use Rattle.answers.specs.declared.Fill.{Fill}
use Rattle.answers.specs.declared.FullAnswer.{FullAnswer}
use Rattle.answers.specs.Refusals.{number_of}

-- an answer that is no refusal says what it tells, any other the refusal's number
abbrev pub says : {T : Type 0} → (T → Answer) → Result T Refusal → Answer
says told (Ok x) = told x
says told (Err why) = refused (number_of why)

abbrev pub start_says : Result Unit Refusal → Answer
start_says = says (λ _. done)

abbrev pub take_says : Result Allocation Refusal → Answer
take_says = says (λ span. granted span.offset span.metadata.0)

-- of a call that changes something, whichever it is: a take grants a span, the others are done
abbrev pub span_or_done : Option Allocation → Answer
span_or_done (Some span) = granted span.offset span.metadata.0
span_or_done None = done

abbrev pub back_says : Result Unit Refusal → Answer
back_says = says (λ _. done)

abbrev pub size_says : Result Size Refusal → Answer
size_says = says (λ size. length_is size.0)

abbrev pub report_says : Result StorageReport Refusal → Answer
report_says = says (λ report. reported report.total_free_space.0 report.largest_free_region.0)

abbrev pub fill_says : Result Fill Refusal → Answer
fill_says = says (λ fill. reported fill.live.0 fill.fill)

-- ---- the full report: value and count of each class from 0 to 255
abbrev pub columns : (sizes counts : List ℕ) → List (ℕ × ℕ)
columns sizes counts = map (λ (c : ℕ). (get_or sizes c 0, get_or counts c 0)) (numbers_from 0 256)

abbrev pub outcome_says : Result Unit Refusal → (sizes counts : List ℕ) → Answer
outcome_says o sizes counts = says (λ _. classes (columns sizes counts)) o

abbrev pub full_says : FullAnswer → Answer
full_says a = outcome_says a.outcome a.sizes a.counts

-- each column has a place for every class
abbrev pub AllPlaces : FullAnswer → Type 0
AllPlaces a = (length a.sizes ≡ 256) × (length a.counts ≡ 256)

-- "Every refusal returns its number, figures of 0": the figures of a refused full report
abbrev pub ZeroIfRefused : Result Unit Refusal → (sizes counts : List ℕ) → Type 0
ZeroIfRefused (Ok _) sizes counts = Unit {0}
ZeroIfRefused (Err why) sizes counts = (sizes ≡ replicate 256 0) × (counts ≡ replicate 256 0)

abbrev pub FiguresOfZero : FullAnswer → Type 0
FiguresOfZero a = ZeroIfRefused a.outcome a.sizes a.counts

-- what that says of the rows; proofs/Figures.antt makes it
pub record FigureFacts : Type 0 where
  -- each of the 256 rows has value 0 and count 0
  pub refused_rows : (a : FullAnswer) (why : Refusal) → a.outcome ≡ Err why → FiguresOfZero a → columns a.sizes a.counts ≡ replicate 256 (0, 0)

-- ---- the audit: yes is `done`
abbrev pub audit_says : Result Unit Refusal → Answer
audit_says = says (λ _. done)
