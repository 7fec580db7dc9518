-- What is put at place 0 stands at the front: the digits of its number. Assumes nothing.
use mathlib.Core.Path.{ap}
use Prim.Native.Nat.{ℕ}
use Rattle.journal_text.specs.Decimal.{decimal}
use Rattle.journal_text.specs.Texts.{broken_text}
use Rattle.journal_text.proofs.Puts.{leads, of_text}
use Rattle.journal_text.proofs.writing.line_of_broken.Goals as goal

pub returns : goal.returns
unfolding broken_text
returns c = leads (of_text (ap (λ (n : ℕ). decimal n) c.number.ensures) c.put_plain.ensures)
