-- By the answer. Assumes nothing.
use mathlib.Core.Path.{sym, ap, ◌∙◌}
use Rattle.calls.specs.Values.{Answer}
use Rattle.journal_text.specs.Texts.{answer_text}
use Rattle.journal_text.proofs.Puts.{of_text, refused_text}
use Rattle.journal_text.proofs.writing.put_answer.Goals as goal

pub returns-in-Err : goal.returns-in-Err
unfolding answer_text
returns-in-Err c =
    of_text (refused_text c.in-Err.why c.number.ensures ∙ sym (ap (λ (x : Answer). answer_text x) c.in-Err.is))
    c.put_plain.ensures
