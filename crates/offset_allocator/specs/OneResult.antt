-- Any two results that a contract of a call allows are the same values of the code: answers, totals or head, arrays, tables, scratch.
-- proofs/OneResult.antt makes it. Assumes nothing.
use Rattle.std.specs.Prelude.{Result, ◌≡◌, List, ℕ}
use Rattle.answers.specs.declared.Allocation.{Allocation}
use Rattle.answers.specs.declared.Fill.{Fill}
use Rattle.answers.specs.declared.Refusal.{Refusal}
use Rattle.small_float.specs.declared.Size.{Size}
use Rattle.answers.specs.declared.StorageReport.{StorageReport}
use Rattle.ledger.specs.Calls.{Question, Ask, Call}
use Rattle.tables.specs.Words.{Words, Edition}
use Rattle.tables.specs.Setup.{Lent}
use Rattle.tables.specs.Promise.{Promise, SetupPromise}
use Rattle.audit_words.specs.Promise.{AuditPromise}
use Rattle.answers.specs.declared.FullAnswer.{FullAnswer}
use Rattle.answers.specs.Answers.{start_says, take_says, back_says, size_says, report_says, fill_says, full_says, AllPlaces, FiguresOfZero, audit_says}
use Rattle.records.specs.InWords.{InPlace, placed_words}
use Rattle.offset_allocator.specs.declared.head.Head.{Head}
use Rattle.offset_allocator.specs.HeadWords.{head_words}

-- what a call by value leaves
pub record ByValue : Type 0 where
  pub head : Head
  pub nodes : List ℕ
  pub pile : List ℕ

-- a form: what a call leaves in it, and how that makes words
pub record Form : Type 1 where
  pub Left : Type 0
  pub words : Left → Words

abbrev pub in_place : Form
in_place = record { Left = InPlace; words = placed_words }

abbrev pub by_value : Form
by_value = record { Left = ByValue; words = λ v. head_words v.head v.nodes v.pile }

pub record OneResult (E : Edition) (F : Form) : Type 0 where
  pub of_setup : (size count : ℕ) (lent : Lent) (a b : Result Unit Refusal) (v u : F.Left) → SetupPromise E size count lent (F.words v) (start_says a)
      → SetupPromise E size count lent (F.words u) (start_says b) → (a ≡ b) × (v ≡ u)
  pub of_reset : (c : Call) (w : Words) (a b : Result Unit Refusal) (v u : F.Left) → Promise E c w (F.words v) (start_says a)
      → Promise E c w (F.words u) (start_says b) → (a ≡ b) × (v ≡ u)
  pub of_take : (c : Call) (w : Words) (a b : Result Allocation Refusal) (v u : F.Left) → Promise E c w (F.words v) (take_says a)
      → Promise E c w (F.words u) (take_says b) → (a ≡ b) × (v ≡ u)
  pub of_back : (c : Call) (w : Words) (a b : Result Unit Refusal) (v u : F.Left) → Promise E c w (F.words v) (back_says a)
      → Promise E c w (F.words u) (back_says b) → (a ≡ b) × (v ≡ u)
  -- the questions and the audit leave what they were lent, but for the audit's scratch
  pub of_size : (q : Question) (w : Words) (a b : Result Size Refusal) → Promise E (Ask q) w w (size_says a) → Promise E (Ask q) w w (size_says b)
      → a ≡ b
  pub of_report : (q : Question) (w : Words) (a b : Result StorageReport Refusal) → Promise E (Ask q) w w (report_says a)
      → Promise E (Ask q) w w (report_says b) → a ≡ b
  pub of_full : (q : Question) (w : Words) (a b : FullAnswer) → AllPlaces a → AllPlaces b → FiguresOfZero a → FiguresOfZero b
      → Promise E (Ask q) w w (full_says a) → Promise E (Ask q) w w (full_says b) → a ≡ b
  pub of_fill : (q : Question) (w : Words) (a b : Result Fill Refusal) → Promise E (Ask q) w w (fill_says a) → Promise E (Ask q) w w (fill_says b)
      → a ≡ b
  pub of_audit : (w : Words) (scratch left other : List ℕ) (a b : Result Unit Refusal) → AuditPromise E w scratch left (audit_says a)
      → AuditPromise E w scratch other (audit_says b) → (a ≡ b) × (left ≡ other)

-- in both forms, under any edition
pub record OneResultInBoth (E : Edition) : Type 0 where
  pub placed : OneResult E in_place
  pub valued : OneResult E by_value
