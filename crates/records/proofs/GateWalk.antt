-- What the gate's answer means, of any edition: its number, and for any call. Shut, the call is refused with the number and every word stays;
-- open, there is room. Assumes nothing.
use mathlib.Core.Path.{◌≡◌, sym, ap, ◌∙◌}
use Prim.Native.Nat.{ℕ, ◌≤◌}
use lib.ListN.{length}
use Rattle.std.specs.Prelude.{Result, Ok, Err}
use Rattle.ledger.specs.Ledger.{refused}
use Rattle.ledger.specs.Calls.{Call}
use Rattle.tables.specs.Words.{Words, Edition}
use Rattle.tables.specs.Gate.{gate, gate_of}
use Rattle.tables.specs.Calls.{answer_words}
use Rattle.tables.specs.Room.{Room}
use Rattle.tables.proofs.Gate.{call_shut, gate_has_room}
use Rattle.answers.specs.declared.Refusal.{Refusal}
use Rattle.answers.specs.Refusals.{number_of}
use Rattle.answers.proofs.Numbers.{number_means}
use Rattle.records.specs.InWords.{gate_number}

-- ---- any gate that was tested, with the number n: 0 where it is open; where it is shut that of a refusal, and none is 0
pub open_is_0 : {g : Result Unit Refusal} {n : ℕ} → gate_number g ≡ n → g ≡ Ok tt → n ≡ 0
open_is_0 e f = sym e ∙ ap gate_number f

pub shut_is : {g : Result Unit Refusal} {n : ℕ} {why : Refusal} → gate_number g ≡ n → g ≡ Err why → n ≡ number_of why
shut_is e f = sym e ∙ ap gate_number f

pub not_0 : (why : Refusal) → 1 ≤ number_of why
not_0 why = (number_means.in_range why).0

-- ---- the gate of a call on the words w
module _ (E : Edition) (w : Words) where
  pub opened : {g : Result Unit Refusal} → gate_number g ≡ gate E 6 w.count (length w.nodes) (length w.pile) → g ≡ Ok tt → gate_of E w ≡ 0
  unfolding gate_of
  opened e f = open_is_0 e f

  pub closed : {g : Result Unit Refusal} {why : Refusal} → gate_number g ≡ gate E 6 w.count (length w.nodes) (length w.pile) → g ≡ Err why
      → gate_of E w ≡ number_of why
  unfolding gate_of
  closed e f = shut_is e f

  pub has_room : {g : Result Unit Refusal} → gate_number g ≡ gate E 6 w.count (length w.nodes) (length w.pile) → g ≡ Ok tt
      → Room E w.count (length w.nodes) (length w.pile)
  has_room e f = gate_has_room E w (opened e f)

  pub shut_out : (c : Call) {g : Result Unit Refusal} {why : Refusal} → gate_number g ≡ gate E 6 w.count (length w.nodes) (length w.pile)
      → g ≡ Err why → (refused (number_of why), w) ≡ answer_words E c w
  shut_out c {why = why} e f = call_shut E c w (not_0 why) (closed e f)
