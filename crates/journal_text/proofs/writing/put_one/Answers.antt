-- The word, then the number. Assumes nothing.
use Rattle.journal_text.proofs.Puts.{and_then}
use native.Mathlib.Omega.{arith}
use Rattle.journal_text.proofs.writing.put_one.Goals as goal

pub put_number-requires : goal.put_number-requires
put_number-requires c = omega (arith, c.put_word-next.ensures.told)

pub returns : goal.returns
returns c = and_then c.put_word-next.ensures c.put_number.ensures.0
