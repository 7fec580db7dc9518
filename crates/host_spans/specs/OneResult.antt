-- Any two results of the functions that host_values does not speak of coincide: lengths, smallest stores, and the audit with its scratch.
-- proofs/OneResult.antt makes it. Assumes nothing.
use Rattle.std.specs.Prelude.{◌≡◌, List, ℕ}
use Rattle.small_float.specs.Smallest.{SmallestStore}
use Rattle.tables.specs.Words.{Words, Edition}
use Rattle.audit_words.specs.Promise.{AuditPromise}
use Rattle.starting.specs.Lengths.{LengthsFor}
use Rattle.host_values.specs.declared.Told.{Told}
use Rattle.host_values.specs.Tells.{Tells}
use Rattle.host_values.specs.OneResult.{OneOutcome}
use Rattle.host_spans.specs.declared.classes.Lengths.{Lengths}
use Rattle.host_spans.specs.Classes.{smallest_told, lengths_told}

pub record OneTold (E : Edition) : Type 0 where
  pub of_lengths : (count : ℕ) (r s : Lengths) → Tells lengths_told (LengthsFor E count) r → Tells lengths_told (LengthsFor E count) s → r ≡ s
  pub of_smallest : (object : ℕ) (r s : Told) → Tells smallest_told (SmallestStore object) r → Tells smallest_told (SmallestStore object) s → r ≡ s
  pub of_audit : (w : Words) (scratch : List ℕ) → OneOutcome (AuditPromise E w scratch)
