-- By what is given. Assumes nothing.
use mathlib.Core.Path.{sym, ap, ◌∙◌}
use Rattle.std.specs.Prelude.{Option, Ok}
use Rattle.answers.specs.declared.Allocation.{Allocation}
use Rattle.journal_text.specs.Texts.{answer_text}
use Rattle.journal_text.proofs.Puts.{of_text, done_text}
use Rattle.journal_text.proofs.writing.put_done.Goals as goal

pub returns-in-None : goal.returns-in-None
unfolding answer_text
returns-in-None c =
    of_text (done_text ∙ sym (ap (λ (given : Option Allocation). answer_text (Ok given)) c.in-None.is)) c.put_word.ensures

pub returns-in-Some : goal.returns-in-Some
unfolding answer_text
returns-in-Some c =
    of_text (sym (ap (λ (given : Option Allocation). answer_text (Ok given)) c.in-Some.is)) c.put_granted.ensures
