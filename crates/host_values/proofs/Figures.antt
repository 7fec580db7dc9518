-- The figures of a refusal are 0, whichever call it was; the number of a full report. Assumes nothing.
use Rattle.std.specs.Prelude.{Result, Ok, Err}
use Rattle.answers.specs.declared.Refusal.{Refusal}
use mathlib.Core.Path.{◌≡◌, refl, sym}
use mathlib.Core.List.{List}
use Prim.Native.Nat.{ℕ, zero, suc}
use lib.ListN.{get_or, replicate}
use Rattle.ledger.specs.Ledger.{refused}
use Rattle.ledger.specs.Calls.{Call}
use Rattle.ledger.specs.Figures.{refusal_of, figure_count}
use Rattle.answers.specs.Answers.{outcome_says}
use Rattle.host_values.specs.declared.Told.{Told}
use Rattle.host_values.specs.Told.{told_by, refused_by, number_of_full}

-- every place of some zeros, and every place beyond them
none_but_0 : (n i : ℕ) → get_or {A = ℕ} (replicate n 0) i 0 ≡ 0
none_but_0 zero i = refl
none_but_0 (suc n) zero = refl
none_but_0 (suc n) (suc i) = none_but_0 n i

pub refused_told : (c : Call) (k : ℕ) → refused_by k ≡ told_by c (refused k)
refused_told c k = sym {A = Told} (λ i. record { number = k; first = none_but_0 (figure_count c) 0 i; second = none_but_0 (figure_count c) 1 i })

pub full_number : (o : Result Unit Refusal) (sizes counts : List ℕ) → refusal_of (outcome_says o sizes counts) ≡ number_of_full o
full_number (Ok _) sizes counts = refl
full_number (Err why) sizes counts = refl
