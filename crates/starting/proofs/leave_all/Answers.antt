-- The totals are 0, whatever was lent. Assumes nothing.
use mathlib.Core.Path.{refl}
use Rattle.records.proofs.Outcome.{outcome}
use Rattle.starting.proofs.leave_all.Goals as goal

pub returns : goal.returns
returns c nodes pile = outcome _ _ nodes pile refl c.zeros-zeros.ensures
