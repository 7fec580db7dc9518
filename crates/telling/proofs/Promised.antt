-- From a call's promise and what was told of its answer to what the call made. Assumes nothing.
use Prim.Native.Nat.{ℕ}
use mathlib.Core.Path.{◌≡◌, ap, sym, ◌∙◌}
use mathlib.Core.List.{List}
use Rattle.ledger.specs.Ledger as ledger
use Rattle.tables.specs.Words.{Words}
use Rattle.tables.specs.Setup.{Lent}
use Rattle.call_values.specs.declared.answer.Answer.{Answer}
use Rattle.call_values.specs.declared.call.Call.{Call}
use Rattle.telling.specs.Told.{told, told_as}
use Rattle.telling.specs.Made.{told_by, made}

pub told_so : {b : Answer} {a : ledger.Answer} {v : Words} {p : ledger.Answer × Words}
    → b ≡ told a
    → ◌≡◌ {A = ledger.Answer × Words} (a, v) p
    → ◌≡◌ {A = Answer × Words} (b, v) (told_by p)
told_so {v = v} t e = ap (λ (x : Answer). (x, v)) t ∙ ap told_by e

pub asked_so : (asked : List (ℕ × ℕ) → Answer) {b : Answer} {a : ledger.Answer} {w : Words} {p : ledger.Answer × Words}
    → b ≡ told_as asked a
    → ◌≡◌ {A = ledger.Answer × Words} (a, w) p
    → ◌≡◌ {A = Answer × Words} (b, w) (told_as asked p.0, w)
asked_so asked {w = w} t e = ap (λ (x : Answer). (x, w)) (t ∙ ap (λ (q : ledger.Answer × Words). told_as asked q.0) e)

-- the call that was made is the one that came
pub as_came : (lends : Words → Lent) {c d : Call} (w : Words) {r : Answer × Words} → c ≡ d → r ≡ made lends d w → r ≡ made lends c w
as_came lends w came e = e ∙ ap (λ (x : Call). made lends x w) (sym came)
