-- What is written, by what the numbers name. Assumes nothing.
use mathlib.Core.Path.{◌≡◌, subst}
use Rattle.std.specs.Prelude.{Option}
use mathlib.Core.List.{List}
use Prim.Native.Nat.{ℕ}
use Rattle.calls.specs.declared.Call.{Call}
use Rattle.journal.specs.Refusals.{Wrote}
use Rattle.host_journal.specs.Written.{Writes}

pub writes_so : {before after : List ℕ} {at : ℕ} {c d : Option Call} {answer : Option Wrote} → c ≡ d → Writes before at after c answer
    → Writes before at after d answer
writes_so {before = before} {after = after} {at = at} {answer = answer} e p = subst (λ (x : Option Call). Writes before at after x answer) e p
