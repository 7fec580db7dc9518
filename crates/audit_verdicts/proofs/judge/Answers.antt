-- Another number than the one that is expected differs. Assumes nothing.
use Rattle.audit_verdicts.proofs.Means.{never_agrees}
use Rattle.audit_verdicts.proofs.judge.Goals as goal

pub returns-then-found-expected : goal.returns-then-found-expected
returns-then-found-expected c = λ e. never_agrees e
