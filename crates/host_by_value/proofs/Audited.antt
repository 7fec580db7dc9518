-- What the audit promises of words it promises of the same words, put together elsewhere. Assumes nothing.
use mathlib.Core.Path.{◌≡◌, subst}
use mathlib.Core.List.{List}
use Prim.Native.Nat.{ℕ}
use Rattle.ledger.specs.Ledger.{Answer}
use Rattle.tables.specs.Words.{Words, Edition}
use Rattle.audit_words.specs.Promise.{AuditPromise}

pub audit_moved : {E : Edition} {w x : Words} {scratch left : List ℕ} {a : Answer} → w ≡ x → AuditPromise E w scratch left a
    → AuditPromise E x scratch left a
audit_moved {E = E} {scratch = scratch} {left = left} {a = a} found p = subst (λ (u : Words). AuditPromise E u scratch left a) found p
