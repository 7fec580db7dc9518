-- A count out of its limits, or so many words to a record: said here, so that another number is refused here. Assumes nothing.
use mathlib.Core.Path.{refl}
use mathlib.Core.Logic.{inl, inr}
use Rattle.starting.proofs.lengths.table_lengths.Goals as goal

pub returns-then-max_allocs-lt2 : goal.returns-then-max_allocs-lt2
returns-then-max_allocs-lt2 c = (inl c.if-max_allocs-lt2.true, refl)

pub returns-then-max_allocs-gt-MAX_RECORDS : goal.returns-then-max_allocs-gt-MAX_RECORDS
returns-then-max_allocs-gt-MAX_RECORDS c = (inr c.if-max_allocs-gt-MAX_RECORDS.true, refl)
