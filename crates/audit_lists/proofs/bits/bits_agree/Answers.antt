-- By the tests that the model makes too. Assumes nothing.
use mathlib.Core.Path.{sym, ◌∙◌}
use Rattle.audit_words.specs.Bits.{bits_agree}
use Rattle.audit_lists.proofs.bits.bits_agree.Goals as goal

pub returns-then-not-leaves_agree : goal.returns-then-not-leaves_agree
unfolding bits_agree
returns-then-not-leaves_agree c = rw (sym c.leaves_agree.ensures ∙ c.if-not-leaves_agree.true)

pub returns : goal.returns
unfolding bits_agree
returns c = rw (sym c.leaves_agree.ensures ∙ c.if-not-leaves_agree.false, c.top_of.ensures)
