-- The digit 0, then the figures. Assumes nothing.
use mathlib.Core.Path.{sym, ap}
use mathlib.Core.List.{List, [], ◌∷◌, ◌++◌}
use Prim.Native.Nat.{ℕ}
use Rattle.journal_text.specs.Decimal.{spaced}
use Rattle.journal_text.proofs.Decimals.{decimal_digit}
use Rattle.journal_text.proofs.Puts.{of_text}
use native.Mathlib.Omega.{arith}
use Rattle.journal_text.proofs.writing.put_granted.Goals as goal

pub returns : goal.returns
returns c =
    of_text (ap (λ (text : List ℕ). text ++ spaced (c.args.span.offset ∷ c.args.span.metadata.0 ∷ [])) (sym (decimal_digit 0 (omega arith))))
    c.put_two.ensures
