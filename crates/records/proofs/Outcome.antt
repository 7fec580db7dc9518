-- An answer and the scalars beside it make an outcome. Assumes nothing.
use mathlib.Core.Path.{◌≡◌, ap}
use mathlib.Core.List.{List}
use Prim.Native.Nat.{ℕ}
use Rattle.ledger.specs.Ledger.{Answer}
use Rattle.tables.specs.Words.{Words}
use Rattle.tables.proofs.Commits.{outcome_is}
use Rattle.records.specs.declared.totals.Totals.{Totals}
use Rattle.records.specs.InWords.{words_of}

pub outcome : {a b : Answer} {t u : Totals} (hs ls ns ps : List ℕ) → a ≡ b → t ≡ u
    → ◌≡◌ {A = Answer × Words} (a, words_of t hs ls ns ps) (b, words_of u hs ls ns ps)
outcome hs ls ns ps e f = outcome_is e (ap (λ (t : Totals). words_of t hs ls ns ps) f)
