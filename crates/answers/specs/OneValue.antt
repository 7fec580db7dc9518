-- An answer of the code is given by what it says: any two that say the same are one value. proofs/OneValue.antt makes it. Assumes nothing.
use Rattle.std.specs.Prelude.{◌≡◌, Result}
use Rattle.small_float.specs.declared.Size.{Size}
use Rattle.answers.specs.declared.Refusal.{Refusal}
use Rattle.answers.specs.declared.Allocation.{Allocation}
use Rattle.answers.specs.declared.StorageReport.{StorageReport}
use Rattle.answers.specs.declared.Fill.{Fill}
use Rattle.answers.specs.declared.FullAnswer.{FullAnswer}
use Rattle.answers.specs.Answers.{start_says, take_says, back_says, size_says, report_says, full_says, AllPlaces, FiguresOfZero, fill_says, audit_says}

pub record OneValue : Type 0 where
  pub of_start : (a b : Result Unit Refusal) → start_says a ≡ start_says b → a ≡ b
  pub of_take : (a b : Result Allocation Refusal) → take_says a ≡ take_says b → a ≡ b
  pub of_back : (a b : Result Unit Refusal) → back_says a ≡ back_says b → a ≡ b
  pub of_size : (a b : Result Size Refusal) → size_says a ≡ size_says b → a ≡ b
  pub of_report : (a b : Result StorageReport Refusal) → report_says a ≡ report_says b → a ≡ b
  pub of_fill : (a b : Result Fill Refusal) → fill_says a ≡ fill_says b → a ≡ b
  pub of_audit : (a b : Result Unit Refusal) → audit_says a ≡ audit_says b → a ≡ b
  -- a full report too, for its columns have all places and those of a refusal are 0
  pub of_full : (a b : FullAnswer) → AllPlaces a → AllPlaces b → FiguresOfZero a → FiguresOfZero b → full_says a ≡ full_says b → a ≡ b
