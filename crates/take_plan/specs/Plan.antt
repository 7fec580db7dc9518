-- A take's plan as the model's, and what it comes to before it looks at a region. Assumes nothing.
use Rattle.std.specs.Prelude.{◌≡◌, ℕ, ◌≤◌, Result, Ok, Err}
use Rattle.tables.specs.Take.{TakePlan, stop, whole, split}
use Rattle.answers.specs.Refusals.{number_of}
use Rattle.small_float.specs.declared.Class.{Class}
use Rattle.answers.specs.declared.Refusal.{Refusal}
use Rattle.answers.specs.declared.Refusal.TheVariants.{BadCount, TableTooShort, NoSpareRecord, NoRegion, NotLive, Unsound, StartsElsewhere}
use Rattle.bitmap.specs.declared.search.NotFound.{NotFound}
use Rattle.bitmap.specs.declared.search.NotFound.TheVariants.{NoClass, BadBits}
use Rattle.take_plan.specs.declared.Planned.{Planned}
use Rattle.take_plan.specs.declared.Planned.TheVariants.{Whole, Split}

abbrev pub plan_of : Result Planned Refusal → TakePlan
plan_of (Err why) = stop (number_of why)
plan_of (Ok (Whole g)) = whole g.class.0 g.record.0 g.offset
plan_of (Ok (Split g rest)) = split g.class.0 g.record.0 g.offset rest.size.0 rest.record.0

-- what a take comes to before it looks at a region: spares are asked for before fit
abbrev pub Seeks : (spares : ℕ) → Result Class NotFound → Result Class Refusal → Type 0
Seeks spares found (Ok c) = (1 ≤ spares) × (found ≡ Ok c)
Seeks spares found (Err NoSpareRecord) = spares ≡ 0
Seeks spares found (Err NoRegion) = (1 ≤ spares) × (found ≡ Err NoClass)
Seeks spares found (Err Unsound) = (1 ≤ spares) × (found ≡ Err BadBits)
Seeks spares found (Err BadCount) = ⊥
Seeks spares found (Err TableTooShort) = ⊥
Seeks spares found (Err NotLive) = ⊥
Seeks spares found (Err StartsElsewhere) = ⊥

-- told from the other side: for each number of spares and each search there is one outcome; proofs/Asked.antt makes it
pub record SeeksMean : Type 0 where
  pub one_outcome : (spares : ℕ) (found : Result Class NotFound) (s t : Result Class Refusal) → Seeks spares found s → Seeks spares found t → s ≡ t
