-- A tenth has a digit less. Assumes nothing.
use mathlib.Core.Path.{◌≡◌}
use lib.ListN.{length}
use Rattle.journal_text.specs.Decimal.{decimal}
use Rattle.journal_text.proofs.Decimals.{length_more, length_digit, at_most_ten}
use borrow.Author.Rules.{rules}
use native.Mathlib.Omega.{arith}
use Rattle.journal_text.proofs.writing.digits.Goals as goal

pub loop-rest-init : goal.loop-rest-init
loop-rest-init c = (omega arith, at_most_ten _ (search rules))

pub loop-rest-preserved : goal.loop-rest-preserved
loop-rest-preserved c =
    (omega (arith, c.loop-rest.invariant.0, length_more c.loop-rest.rest (omega arith)), c.loop-rest.invariant.1)

pub returns : goal.returns
returns c =
    let last : length (decimal c.loop-rest.rest) ≡ 1 = length_digit c.loop-rest.rest (omega arith) in
    (omega (arith, c.loop-rest.invariant.0, last), omega (arith, c.loop-rest.invariant.0, c.loop-rest.invariant.1, last))
