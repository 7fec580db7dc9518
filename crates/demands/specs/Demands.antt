-- The customer's three demands over runs of the calls in code, each claim beneath the words that it states: one record, which
-- proofs/Demands.antt makes. That each call ends with an answer, whatever it is lent, is the proof of its function: none has a `requires`.
-- Assumes nothing.
use Rattle.std.specs.Prelude.{◌≡◌, List, [], ◌∷◌, ℕ, ◌+◌, ◌^◌, ◌≤◌, ◌<◌}
use Rattle.ledger.specs.Ledger.{Ledger, Answer, granted, done, refused, setup, by_class, Stacks}
use Rattle.ledger.specs.Calls.{Request, Call, Take, end, log, answer, Reset}
use Rattle.ledger.specs.WellFormed.{WellFormed}
use Rattle.ledger.specs.Claims.{Claims, Reached}
use Rattle.ledger.specs.Stretch.{Stretch}
use Rattle.tables.specs.Words.{Words, Edition}
use Rattle.tables.specs.Room.{OfHead}
use Rattle.tables.specs.Setup.{Lent}
use Rattle.tables.specs.Calls.{edition32}
use Rattle.tables.specs.Sound.{Sound}
use Rattle.tables.specs.Claims.{OneOf, may_give}
use Rattle.tables.specs.Examples.{LongEnough}
use Rattle.tables.specs.Promise.{Promise, SetupPromise}
use Rattle.audit_words.specs.Promise.{AuditPromise}
use Rattle.demands.specs.Runs.{Done, did, Auditing, Run, NoSetup, asked_of, answers_of, calls_of, log_of}

-- document 01's ledger after the calls of a run that begins with l
abbrev pub ledger_after : (size count : ℕ) → Ledger Stacks → List Done → Ledger Stacks
ledger_after size count l ds = end (answer by_class size count) (calls_of ds) l

-- a beginning: words that stand for a ledger in order, of a store of this size and count. `Demands` says which calls begin one
pub record Begun (E : Edition) (size count : ℕ) (l : Ledger Stacks) (w : Words) : Type 0 where
  pub in_order : WellFormed by_class size count l
  pub stands : Sound E w l

-- what was done since a beginning, "to the next setup": the words at first, and those that it led to
pub record Since (E : Edition) (size count : ℕ) (l : Ledger Stacks) (at_first : Words) (ds : List Done) (now : Words) : Type 0 where
  pub begun : Begun E size count l at_first
  pub run : Run E at_first ds now
  pub no_setup : NoSetup ds

-- the same, from the other side: a beginning asks no more than that the words stand for the ledger, and every run from it without a setup is one
pub record SinceMeans (E : Edition) : Type 0 where
  pub begins : (w : Words) (l : Ledger Stacks) → Sound E w l → Begun E w.size w.count l w
  pub goes_on : (size count : ℕ) (l : Ledger Stacks) (w now : Words) (ds : List Done) → Begun E size count l w → Run E w ds now → NoSetup ds
      → Since E size count l w ds now
  -- and no less: the words have that size and that count, and the ledger stands in them; and what was done since is a run from there, without a setup
  pub begun_says : (size count : ℕ) (l : Ledger Stacks) (w : Words) → Begun E size count l w → (w.size ≡ size) × (w.count ≡ count) × Sound E w l
  pub since_says : (size count : ℕ) (l : Ledger Stacks) (w now : Words) (ds : List Done) → Since E size count l w ds now
      → Begun E size count l w × Run E w ds now × NoSetup ds

pub record Demands (E : Edition) : Type 0 where
  -- ---- 1. "each call ends with an answer or a numbered refusal": a refusal's number is one of those that document 01 gives for the call
  pub call_numbered : {c : Call} {w v : Words} {k : ℕ} → Promise E c w v (refused k) → OneOf (may_give c) k
  pub setup_numbered : {size count : ℕ} {lent : Lent} {v : Words} {k : ℕ} → SetupPromise E size count lent v (refused k)
      → OneOf (1 ∷ 10 ∷ 2 ∷ []) k
  pub audit_numbered : {w : Words} {scratch left : List ℕ} {k : ℕ} → AuditPromise E w scratch left (refused k) → OneOf (2 ∷ 6 ∷ []) k
  -- "A refusal changes no word but the audit's scratch." The audit is lent all else to be read only. A setup takes no head: refused, it leaves the two
  -- arrays and the two tables that it was lent as they came, and what it gives beside them are zeros, "whose count of 0 makes later calls give 6"
  pub refusal_keeps : {c : Call} {w v : Words} {a : Answer} (k : ℕ) → Promise E c w v a → a ≡ refused k → v ≡ w
  pub refused_setup_keeps : {size count : ℕ} {lent : Lent} {v : Words} {a : Answer} (k : ℕ) → SetupPromise E size count lent v a → a ≡ refused k
      → (v.bin_indices ≡ lent.bin_indices) × (v.used_bins ≡ lent.used_bins) × (v.nodes ≡ lent.nodes) × (v.pile ≡ lent.pile)
  pub refused_setup_zeros : {size count : ℕ} {lent : Lent} {v : Words} {a : Answer} (k : ℕ) → SetupPromise E size count lent v a → a ≡ refused k
      → (v.size ≡ 0) × (v.count ≡ 0) × (v.free_storage ≡ 0) × (v.free_offset ≡ 0) × (v.used_bins_top ≡ 0)
  pub then_6 : {size count : ℕ} {lent : Lent} {v u : Words} {c : Call} {a b : Answer} (k : ℕ) → SetupPromise E size count lent v a → a ≡ refused k
      → Promise E c v u b → b ≡ refused 6
  -- "Even from spoiled tables no span outside the store is granted."
  pub inside : {asked : Request} {o r : ℕ} {w v : Words} → Promise E (Take asked) w v (granted o r) → o + asked.size ≤ w.size
  -- ---- 2. "From an accepted setup": it begins with document 01's setup; so does an accepted reset, whatever the words of the head held before
  pub setup_begins : {size count : ℕ} {lent : Lent} {v : Words} → SetupPromise E size count lent v done
      → Begun E size count (setup by_class size count) v
  pub reset_begins : {w v : Words} → OfHead E w → Promise E Reset w v done → Begun E w.size w.count (setup by_class w.size w.count) v
  -- "answers and reports .. are proved equal to document 01's plain ledger", and the tables go on standing for it
  pub as_the_ledger : {size count : ℕ} {l : Ledger Stacks} {at_first now : Words} {ds : List Done} → Since E size count l at_first ds now
      → (log_of ds ≡ log (answer by_class size count) (calls_of ds) l) × Sound E now (ledger_after size count l ds)
  -- "Live and free regions cover the store ..": all that is claimed of ledgers (ledger/specs/Claims.antt: inside, disjoint, filled, separated,
  -- refused_exactly and the rest) holds of that ledger, for it is well formed; and what is claimed of ledgers that are reached (live_at_most,
  -- history_sum and their fellows) after a setup or a reset
  pub well_formed : {size count : ℕ} {l : Ledger Stacks} {at_first now : Words} {ds : List Done} → Since E size count l at_first ds now
      → Claims size count × WellFormed by_class size count (ledger_after size count l ds)
  pub reached : (size count : ℕ) (ds : List Done) → Reached by_class size count (ledger_after size count (setup by_class size count) ds)
  -- and the audit, wherever it stands in such a run, says yes, if its scratch is long enough
  pub audit_says_yes : {size count n : ℕ} {l : Ledger Stacks} {at_first now end : Words} {a : Answer} {ds later : List Done}
      → Since E size count l at_first ds now
      → Run E now (did (Auditing n) a ∷ later) end → count ≤ n → a ≡ done
  -- ---- 3. "Pick any moment in such a run and let a stretch of calls follow in which every span granted is handed back, last granted first, and no older
  -- span is handed back. Refused calls, reports and other questions may stand anywhere in it, a setup or accepted reset may not, and nobody else writes
  -- the tables. Then every later call, handle numbers and reports included, answers as though the stretch had never been."
  -- `later` is asked after the stretch, and `instead`, the same, at the moment, without the stretch. Audits may stand in the stretch, and audits and
  -- setups, refused and accepted, among what comes later: they are compared too, and so is all that follows them
  pub as_never : {size count : ℕ} {l : Ledger Stacks} {at_first at-the-moment after-the-stretch one_end other-end : Words}
      {before stretch later instead : List Done}
      → Since E size count l at_first before at-the-moment
      → Run E at-the-moment stretch after-the-stretch → NoSetup stretch → Stretch [] (log_of stretch)
      → Run E after-the-stretch later one_end → Run E at-the-moment instead other-end → asked_of later ≡ asked_of instead
      → answers_of later ≡ answers_of instead

-- ---- in the base's edition
pub record BaseDemands : Type 0 where
  pub all_of_them : Demands edition32
  -- every 32-bit size is one of it, so that setup gives 1 and 2 alone
  pub setup_numbered : {size count : ℕ} {lent : Lent} {v : Words} {k : ℕ} → SetupPromise edition32 size count lent v (refused k)
      → OneOf (1 ∷ 2 ∷ []) k
  -- document 02: "Large houses need up to 1,048,576 records .. Demands 2 and 3 then cover the new range." Any 32-bit size with any of these counts, and
  -- tables that are long enough: there is such a setup, it is accepted, and it begins with document 01's setup
  pub covers : (size count : ℕ) (lent : Lent) → size < 2 ^ 32 → 2 ≤ count → count ≤ 1048576 → LongEnough count lent
      → (v : Words) × SetupPromise edition32 size count lent v done × Begun edition32 size count (setup by_class size count) v
  -- and with no other count does anything begin, whoever made its words
  pub no_further : (size count : ℕ) (l : Ledger Stacks) (w : Words) → Begun edition32 size count l w → (2 ≤ count) × (count ≤ 1048576)
