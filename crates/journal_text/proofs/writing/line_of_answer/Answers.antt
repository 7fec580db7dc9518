-- What is put at place 0 stands at the front. Assumes nothing.
use Rattle.journal_text.proofs.Puts.{leads}
use Rattle.journal_text.proofs.writing.line_of_answer.Goals as goal

pub returns : goal.returns
returns c = leads c.put_answer.ensures
