-- What the walk along the chain keeps to, so that no sum of the code's wraps. For the code alone: no claim of the audit speaks of it. Assumes nothing.
use Rattle.std.specs.Prelude.{ℕ, ◌≤◌}
use Rattle.audit_words.specs.declared.Walk.{Walk}

-- what it has counted stays within the count of records and the size of the store
pub record Bounded (count size : ℕ) (w : Walk) : Type 0 where
  pub records_low : w.records ≤ count
  pub frees_low : w.frees ≤ w.records
  pub total_low : w.total ≤ w.offset
  pub offset_low : w.offset ≤ size
