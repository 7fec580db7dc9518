-- The word is put back. Assumes nothing.
use mathlib.Core.Path.{refl}
use lib.Seq.{set-set, set-get_or}
use Rattle.audit_verdicts.proofs.Means.{never_agrees}
use Rattle.audit_trials.proofs.parts.spoil_head.Goals as goal

pub returns-then-at-ge256 : goal.returns-then-at-ge256
returns-then-at-ge256 c = ((λ e. never_agrees e), refl)

pub returns : goal.returns
returns c = (c.judge-verdict.ensures, simp (set-set, set-get_or))
