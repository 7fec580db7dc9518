-- The word is put back. Assumes nothing.
use mathlib.Core.Path.{refl}
use lib.Seq.{set-set, set-get_or}
use Rattle.audit_verdicts.proofs.Means.{never_agrees}
use Rattle.audit_trials.proofs.parts.spoil_node.Goals as goal

pub returns-then-nodes-at : goal.returns-then-nodes-at
returns-then-nodes-at c = ((λ e. never_agrees e), refl)

pub returns : goal.returns
returns c = (c.judge-verdict.ensures, simp (set-set, set-get_or))
