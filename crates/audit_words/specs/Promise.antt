-- What the audit promises: one record for both forms of it. Nodes, pile and head are lent to be read, so that they stay is said by the types.
-- Assumes nothing.
use Rattle.std.specs.Prelude.{◌≡◌, ◌↔◌, ◌⊎◌, List, ℕ, ◌≤◌, ◌<◌, length, get_or}
use Rattle.ledger.specs.Ledger.{Answer, done, refused}
use Rattle.tables.specs.Words.{Words, Edition}
use Rattle.tables.specs.Claims.{BadCount}
use Rattle.audit_words.specs.Audit.{audit_words}
use Rattle.tables.specs.Room.{OfHead}
use Rattle.audit_words.specs.Claims.{SomeLedger, AuditRoom, AuditShort}

-- the audit of the words w, lent the scratch, answers a and leaves the scratch so
pub record AuditPromise (E : Edition) (w : Words) (scratch left : List ℕ) (a : Answer) : Type 0 where
  -- answer and scratch are the model's, for all words
  pub exact : (a, left) ≡ audit_words E w scratch
  -- w is what a head's types allow: the code shows it, and asks nobody for it
  pub of_head : OfHead E w
  -- yes exactly if the tables are long enough and some ledger stands in them
  pub yes_exactly : (a ≡ done) ↔ (AuditRoom E w scratch × SomeLedger E w)
  -- 2 exactly for a length; 6 exactly for the count, or where the tables are long enough and no ledger stands in them; and no other answer
  pub two_exactly : (a ≡ refused 2) ↔ AuditShort E w scratch
  pub six_exactly : (a ≡ refused 6) ↔ (BadCount E w.count ⊎ (AuditRoom E w scratch × ¬ SomeLedger E w))
  pub no_other : (a ≡ done) ⊎ ((a ≡ refused 2) ⊎ (a ≡ refused 6))
  -- the scratch: 0 below the count where the audit got so far, and beyond it as it came
  pub scratch_length : length left ≡ length scratch
  pub scratch_low : AuditRoom E w scratch → (i : ℕ) → i < w.count → get_or left i 0 ≡ 0
  pub scratch_beyond : (i : ℕ) → w.count ≤ i → get_or left i 0 ≡ get_or scratch i 0

-- told from the other side, so that the promise can come to say no less; proofs/Promise.antt makes it
pub record PromiseMeans (E : Edition) : Type 0 where
  -- it is kept exactly where the words are a head's, and answer and scratch are the model's
  pub kept_exactly : (w : Words) (scratch left : List ℕ) (a : Answer)
      → AuditPromise E w scratch left a ↔ (OfHead E w × ((a, left) ≡ audit_words E w scratch))
