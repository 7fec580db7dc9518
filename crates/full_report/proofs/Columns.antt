-- The two columns of the full report, when the first is of the values of the classes. Assumes nothing.
use mathlib.Core.Path.{◌≡◌, ap}
use mathlib.Core.List.{List}
use Prim.Native.Nat.{ℕ, ◌<◌}
use native.Mathlib.Omega.{arith}
use lib.ListN.{get_or}
use Rattle.small_float.specs.Class.{value}
use Rattle.ledger.specs.Ledger.{classes}
use Rattle.ledger.proofs.Numbers.{map_numbers}
use Rattle.tables.specs.Questions.{counts, full_answer}
use Rattle.answers.specs.Answers.{columns}

pub full_columns : (sizes l : List ℕ) → ((c : ℕ) → c < 256 → get_or sizes c 0 ≡ value c)
    → classes (columns sizes l) ≡ full_answer (counts l)
unfolding full_answer
full_columns sizes l values =
    ap classes
    (map_numbers
    (λ (c : ℕ). (get_or sizes c 0, get_or l c 0))
    (λ (c : ℕ). (value c, get_or l c 0))
    0
    256
    (λ c low high. ap (λ (v : ℕ). (v, get_or l c 0)) (values c (omega arith))))
