-- The scalar is put for this audit alone. Assumes nothing.
use Rattle.audit_verdicts.proofs.Means.{never_agrees}
use Rattle.audit_trials.proofs.parts.spoil_total.Goals as goal

pub returns-then-i-ge5 : goal.returns-then-i-ge5
returns-then-i-ge5 c = λ e. never_agrees e

pub returns : goal.returns
returns c = rw (← c.put_total-spoiled.ensures) c.judge.ensures
