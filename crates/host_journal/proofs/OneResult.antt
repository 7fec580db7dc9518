-- By what the crates below say of their outcomes. Assumes nothing.
use mathlib.Core.Path.{◌≡◌, refl, sym, ap, ◌∙◌}
use Rattle.std.specs.Prelude.{Option, Some}
use mathlib.Core.List.{List}
use Prim.Native.Nat.{ℕ}
use Rattle.tables.specs.Words.{Edition}
use Rattle.calls.specs.declared.Call.{Call}
use Rattle.journal.specs.Refusals.{Wrote}
use Rattle.replaying.proofs.OneReplay.{one_step}
use Rattle.host_journal.specs.Written.{Writes, written, no_call}
use Rattle.host_journal.specs.OneResult.{OneOfJournal}

one_write : {before v u : List ℕ} {at : ℕ} {c : Option Call} {a b : Option Wrote} → Writes before at v c a → Writes before at u c b → (a ≡ b) × (v ≡ u)
one_write (written p) (written q) = (ap (λ (x : Wrote). Some x) (p.told ∙ sym q.told), p.left ∙ sym q.left)
one_write (no_call p) (no_call q) = (refl, p ∙ sym q)

pub one_of_journal : (E : Edition) → OneOfJournal E
one_of_journal E = record { of_write = λ before at c v u a b p q. one_write p q; of_step = λ w found v u a b p q. one_step E p q }
