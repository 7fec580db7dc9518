-- A step, by what stands at the place. Assumes nothing.
use mathlib.Core.Path.{◌≡◌, sym, subst}
use Rattle.tables.specs.Words.{Words, Edition}
use Rattle.journal.specs.Reading.{Entry}
use Rattle.replaying.specs.Steps.{Outcome, Steps}

pub found : {E : Edition} {w v : Words} {one other : Entry} {outcome : Outcome} → one ≡ other → Steps E w v other outcome → Steps E w v one outcome
found {E = E} {w = w} {v = v} {outcome = outcome} e s = subst (λ (x : Entry). Steps E w v x outcome) (sym e) s
