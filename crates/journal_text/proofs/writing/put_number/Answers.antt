-- A space, and the number behind it. Assumes nothing.
use mathlib.Core.Path.{◌∙◌}
use lib.ListN.{length-set}
use Rattle.journal_text.proofs.Puts.{as_long, behind_space}
use native.Mathlib.Omega.{arith}
use Rattle.journal_text.proofs.writing.put_number.Goals as goal

pub put_decimal-requires : goal.put_decimal-requires
put_decimal-requires c = simp length-set (omega arith)

pub shape_of-out : goal.shape_of-out
shape_of-out c = as_long c.put_decimal.ensures.0 ∙ simp length-set

pub returns : goal.returns
returns c = (behind_space _ c.put_decimal.ensures.0, omega (arith, c.put_decimal.ensures.1))
