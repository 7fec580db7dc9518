-- What the audit promises of scalars that were read from an array it promises of the array. Assumes nothing.
use mathlib.Core.Path.{◌≡◌, subst}
use mathlib.Core.List.{List}
use Prim.Native.Nat.{ℕ}
use Rattle.ledger.specs.Ledger.{Answer}
use Rattle.tables.specs.Words.{Edition}
use Rattle.audit_words.specs.Promise.{AuditPromise}
use Rattle.records.specs.declared.totals.Totals.{Totals}
use Rattle.records.specs.InWords.{words_of, of_array}
use Rattle.host_values.specs.Kept.{words_in}

pub audit_read : {E : Edition} {t : Totals} {scratch left : List ℕ} {a : Answer} (before hs ls ns ps : List ℕ) → t ≡ of_array before
    → AuditPromise E (words_of t hs ls ns ps) scratch left a → AuditPromise E (words_in before hs ls ns ps) scratch left a
audit_read {E = E} {scratch = scratch} {left = left} {a = a} before hs ls ns ps read p =
    subst (λ (s : Totals). AuditPromise E (words_of s hs ls ns ps) scratch left a) read p
