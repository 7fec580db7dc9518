-- What a row that agrees tells, and that one that differs does not agree. Assumes nothing.
use mathlib.Core.Path.{◌≡◌, refl}
use Rattle.basics.proofs.Clash.{clash}
use Rattle.oracle_lists.specs.declared.tally.Verdict.{Verdict}
use Rattle.oracle_lists.specs.declared.tally.Verdict.TheVariants.{Agrees, Differs}
use Rattle.audit_verdicts.specs.Audited.{AgreesTells}

pub agrees_tells : AgreesTells
agrees_tells said found only = only refl

pub never_agrees : {A : Type 0} → ◌≡◌ {A = Verdict} Differs Agrees → A
never_agrees e = clash (cc)
