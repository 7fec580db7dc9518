-- Yes is `done`. Assumes nothing.
use mathlib.Core.Path.{refl}
use Rattle.audit_words.specs.Audit.{verdict}
use Rattle.auditing.proofs.verdict.Goals as goal

pub returns-then-sound : goal.returns-then-sound
unfolding verdict
returns-then-sound c = rw c.if-sound.true refl

pub returns : goal.returns
unfolding verdict
returns c = rw c.if-sound.false refl
