-- By the call. Assumes nothing.
use mathlib.Core.Path.{sym, ap}
use Rattle.calls.specs.declared.Call.{Call}
use Rattle.journal_text.specs.Decimal.{spaced}
use Rattle.journal_text.specs.Texts.{text_of}
use Rattle.journal_text.proofs.Puts.{of_text}
use Rattle.journal_text.proofs.writing.put_call.Goals as goal

pub returns-in-Take : goal.returns-in-Take
unfolding text_of
returns-in-Take c =
    of_text (sym (ap (λ (x : Call). text_of x) c.in-Take.is)) c.put_one.ensures

pub returns-in-HandBack : goal.returns-in-HandBack
unfolding text_of
returns-in-HandBack c =
    of_text (sym (ap (λ (x : Call). text_of x) c.in-HandBack.is)) c.put_two.ensures

pub returns-in-SetUp : goal.returns-in-SetUp
unfolding text_of
returns-in-SetUp c =
    of_text (sym (ap (λ (x : Call). text_of x) c.in-SetUp.is)) c.put_two-in-SetUp.ensures

pub returns-in-Reset : goal.returns-in-Reset
unfolding text_of spaced
returns-in-Reset c =
    of_text (sym (ap (λ (x : Call). text_of x) c.in-Reset.is)) c.put_word.ensures
