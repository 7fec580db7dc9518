-- The word, then the numbers. Assumes nothing.
use mathlib.Core.Path.{ap}
use mathlib.Core.List.{List, ◌++◌}
use Prim.Native.Nat.{ℕ}
use Rattle.journal_text.proofs.Puts.{and_then, of_text, spaced_two}
use native.Mathlib.Omega.{arith}
use Rattle.journal_text.proofs.writing.put_two.Goals as goal

pub put_number-behind-requires : goal.put_number-behind-requires
put_number-behind-requires c = omega (arith, c.put_word-next.ensures.told)

pub put_number-requires : goal.put_number-requires
put_number-requires c =
    omega (arith, c.put_number-behind.ensures.1, c.put_word-next.ensures.told)

pub returns : goal.returns
returns c =
    of_text (ap (λ (text : List ℕ). c.args.word.now ++ text) (spaced_two c.args.first c.args.second))
    (and_then c.put_word-next.ensures (and_then c.put_number-behind.ensures.0 c.put_number.ensures.0))
