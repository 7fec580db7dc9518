-- Any two results of writing and of a step coincide; proofs/OneResult.antt makes it. (What is read is given by an equation.) Assumes nothing.
use Rattle.std.specs.Prelude.{List, ℕ, Option}
use Rattle.tables.specs.Words.{Words, Edition}
use Rattle.calls.specs.declared.Call.{Call}
use Rattle.journal.specs.Refusals.{Wrote}
use Rattle.journal.specs.Reading.{Entry}
use Rattle.replaying.specs.Steps.{Outcome, Steps}
use Rattle.host_values.specs.OneResult.{OneOutcome}
use Rattle.host_journal.specs.Written.{Writes}

pub record OneOfJournal (E : Edition) : Type 0 where
  pub of_write : (before : List ℕ) (at : ℕ) (c : Option Call) → OneOutcome {A = Option Wrote} {Left = List ℕ} (λ after. Writes before at after c)
  pub of_step : (w : Words) (found : Entry) → OneOutcome {A = Outcome} {Left = Words} (λ v. Steps E w v found)
