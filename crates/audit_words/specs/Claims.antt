-- All that is claimed of the audit, each claim beneath the sentence that it states: one record, which proofs/Claims.antt makes for every
-- edition. Assumes nothing.
use Rattle.std.specs.Prelude.{◌≡◌, ◌↔◌, ◌⊎◌, List, ℕ, ◌≤◌, ◌<◌, length, get_or}
use Rattle.ledger.specs.Ledger.{Ledger, done, refused, Stacks}
use Rattle.ledger.specs.Calls.{Question, Call, Ask, end}
use Rattle.tables.specs.Words.{Words, Edition}
use Rattle.tables.specs.Setup.{Lent, setup_words}
use Rattle.tables.specs.Calls.{answer_words}
use Rattle.tables.specs.Sound.{Sound}
use Rattle.tables.specs.Room.{Room, OfHead}
use Rattle.tables.specs.Reach.{AgreeOn, Agree}
use Rattle.tables.specs.Claims.{BadCount, TooShort}
use Rattle.audit_words.specs.Scratch.{cleared}
use Rattle.audit_words.specs.Audit.{audit_words}

-- some ledger stands in the words
abbrev pub SomeLedger : Edition → Words → Type 0
SomeLedger E w = (l : Ledger Stacks) × Sound E w l

-- the count is within its limits, and all three tables are long enough for it
pub record AuditRoom (E : Edition) (w : Words) (scratch : List ℕ) : Type 0 where
  pub tables_room : Room E w.count (length w.nodes) (length w.pile)
  pub scratch_room : w.count ≤ length scratch

-- the count is within its limits, and a table is too short for it; the scratch comes last
abbrev pub AuditShort : Edition → Words → List ℕ → Type 0
AuditShort E w scratch =
    TooShort E w.count (length w.nodes) (length w.pile)
    ⊎ (Room E w.count (length w.nodes) (length w.pile) × (length scratch < w.count))

pub record Claims (E : Edition) : Type 0 where
  -- ---- "The audit says yes exactly if they are sound": for any words that a head can have
  pub yes_exactly : (w : Words) (scratch : List ℕ) → OfHead E w
      → ((audit_words E w scratch).0 ≡ done) ↔ (AuditRoom E w scratch × SomeLedger E w)
  -- what a head's types say is no more than sound words have
  pub sound_head : (w : Words) (l : Ledger Stacks) → Sound E w l → OfHead E w
  -- ---- the cases of count and lengths: every audit is in one of them, and in no two
  pub one_case : (w : Words) (scratch : List ℕ) → BadCount E w.count ⊎ (AuditShort E w scratch ⊎ AuditRoom E w scratch)
  pub cases_apart : (w : Words) (scratch : List ℕ) → (AuditShort E w scratch → ¬ BadCount E w.count)
      × (AuditRoom E w scratch → ¬ BadCount E w.count)
      × (AuditRoom E w scratch → ¬ AuditShort E w scratch)
  -- ---- the refusals, in their order: 6 for the count, 2 for a length, 6 for words that are not sound; and no other answer
  pub bad_count : (w : Words) (scratch : List ℕ) → BadCount E w.count → audit_words E w scratch ≡ (refused 6, scratch)
  pub too_short : (w : Words) (scratch : List ℕ) → AuditShort E w scratch → audit_words E w scratch ≡ (refused 2, scratch)
  pub two_exactly : (w : Words) (scratch : List ℕ) → ((audit_words E w scratch).0 ≡ refused 2) ↔ AuditShort E w scratch
  pub six_exactly : (w : Words) (scratch : List ℕ) → OfHead E w
      → ((audit_words E w scratch).0 ≡ refused 6) ↔ (BadCount E w.count ⊎ (AuditRoom E w scratch × ¬ SomeLedger E w))
  pub no_other : (w : Words) (scratch : List ℕ)
      → ((audit_words E w scratch).0 ≡ done) ⊎ (((audit_words E w scratch).0 ≡ refused 2) ⊎ ((audit_words E w scratch).0 ≡ refused 6))
  -- ---- "a scratch table .. whose final words are fixed": behind the gate 0 below the count, yes or no, and beyond it as they came;
  -- before it (bad_count, too_short) all as they came. What stood in it makes no difference to the answer
  pub scratch_length : (w : Words) (scratch : List ℕ) → length (audit_words E w scratch).1 ≡ length scratch
  pub scratch_low : (w : Words) (scratch : List ℕ) → AuditRoom E w scratch → (i : ℕ) → i < w.count
      → get_or (audit_words E w scratch).1 i 0 ≡ 0
  pub scratch_beyond : (w : Words) (scratch : List ℕ) (i : ℕ) → w.count ≤ i → get_or (audit_words E w scratch).1 i 0 ≡ get_or scratch i 0
  pub any_scratch : (w : Words) (scratch other : List ℕ) → w.count ≤ length scratch → w.count ≤ length other
      → (audit_words E w scratch).0 ≡ (audit_words E w other).0
  -- ---- "words beyond them are neither read nor written". Not read: tables that agree as far as the count needs, lent with scratches that are
  -- long enough, give one answer and leave scratches that agree as far, whatever these held. Not written: scratch_beyond
  pub not_read : (w v : Words) (scratch other : List ℕ) → Agree w.count w v → AuditRoom E w scratch → w.count ≤ length other
      → ((audit_words E w scratch).0 ≡ (audit_words E v other).0) × AgreeOn w.count (audit_words E w scratch).1 (audit_words E v other).1
  -- ---- sound words: yes
  pub sound_yes : (w : Words) (l : Ledger Stacks) (scratch : List ℕ) → Sound E w l → w.count ≤ length scratch
      → audit_words E w scratch ≡ (done, cleared w.count scratch)
  -- "Every call takes sound to sound": where the audit said yes, it says yes after any call; so after an accepted setup and any calls
  pub call_keeps : (w : Words) (scratch : List ℕ) → OfHead E w → (audit_words E w scratch).0 ≡ done → (c : Call)
      → (audit_words E (answer_words E c w).1 scratch).0 ≡ done
  pub run_keeps : (size count : ℕ) (lent : Lent) (scratch : List ℕ) → (setup_words E size count lent).0 ≡ done
      → count ≤ length scratch → (cs : List Call) → (audit_words E (end (answer_words E) cs (setup_words E size count lent).1) scratch).0 ≡ done
  -- a question leaves everything, so the audit after it is the audit before it, on any words
  pub question_leaves : (q : Question) (w : Words) (scratch : List ℕ)
      → audit_words E (answer_words E (Ask q) w).1 scratch ≡ audit_words E w scratch
