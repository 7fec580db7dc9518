-- What a take does behind the gate. Assumes nothing.
use Rattle.std.specs.Prelude.{◌≡◌, ℕ}
use Rattle.ledger.specs.Ledger.{Answer}
use Rattle.tables.specs.Words.{Words}
use Rattle.tables.specs.Calls.{edition32}
use Rattle.tables.specs.Take.{plan_take, do_take}

-- behind the gate: the answer and the words are those of the model's plan
abbrev pub TakesAsPlanned : ℕ → (w v : Words) → Answer → Type 0
TakesAsPlanned s w v a = ◌≡◌ {A = Answer × Words} (a, v) (do_take edition32 w s (plan_take w s))
