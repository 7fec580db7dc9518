-- An audit of a head's words whose answer and scratch are the model's keeps all that it promises, and its promise allows one outcome.
-- Assumes nothing.
use mathlib.Core.Path.{◌≡◌, refl, sym, subst, ◌∙◌}
use mathlib.Core.List.{List}
use Prim.Native.Nat.{ℕ}
use Rattle.ledger.specs.Ledger.{Answer}
use Rattle.tables.specs.Words.{Words, Edition}
use Rattle.audit_words.specs.Audit.{audit_words}
use Rattle.tables.specs.Room.{OfHead}
use Rattle.audit_words.specs.Promise.{AuditPromise, PromiseMeans}
use Rattle.audit_words.proofs.Claims.{claims}

-- what the model leaves is promised
model_promise : (E : Edition) (w : Words) (scratch : List ℕ) → OfHead E w
    → AuditPromise E w scratch (audit_words E w scratch).1 (audit_words E w scratch).0
model_promise E w scratch H = record {
  exact = refl;
  of_head = H;
  yes_exactly = (claims E).yes_exactly w scratch H;
  two_exactly = (claims E).two_exactly w scratch;
  six_exactly = (claims E).six_exactly w scratch H;
  no_other = (claims E).no_other w scratch;
  scratch_length = (claims E).scratch_length w scratch;
  scratch_low = (claims E).scratch_low w scratch;
  scratch_beyond = (claims E).scratch_beyond w scratch;
}

pub audit_promise : (E : Edition) (w : Words) (scratch : List ℕ) {left : List ℕ} {a : Answer} → OfHead E w → (a, left) ≡ audit_words E w scratch
    → AuditPromise E w scratch left a
audit_promise E w scratch H e =
    subst (λ (x : Answer × List ℕ). AuditPromise E w scratch x.1 x.0) (sym e) (model_promise E w scratch H)

-- any two outcomes that a promise allows coincide
pub one_audit : (E : Edition) (w : Words) (scratch : List ℕ) {left other : List ℕ} {a b : Answer} → AuditPromise E w scratch left a
    → AuditPromise E w scratch other b → ◌≡◌ {A = Answer × List ℕ} (a, left) (b, other)
one_audit E w scratch p q = p.exact ∙ sym q.exact

-- no more and no less than the model's outcome is promised, of a head's words
pub promise_means : (E : Edition) → PromiseMeans E
promise_means E = record {
  kept_exactly = λ w scratch left a. (λ p. (p.of_head, p.exact), λ k. audit_promise E w scratch k.0 k.1);
}
