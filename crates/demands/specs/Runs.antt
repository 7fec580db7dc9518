-- Runs of the calls in code, told by what their contracts promise and by nothing else. A call in place, with the head lent whole or not, and the same
-- call by value promise the same record over the same words, so a step of a run may be any of them. Assumes nothing.
use Rattle.std.specs.Prelude.{◌≡◌, List, [], ◌∷◌, ◌++◌, map, ℕ, ◌^◌, ◌<◌, length}
use Rattle.ledger.specs.Ledger.{Answer}
use Rattle.ledger.specs.Calls.{Call, Event, event, call_of}
use Rattle.tables.specs.Words.{Words, Edition}
use Rattle.tables.specs.Setup.{Lent, setup_words}
use Rattle.tables.specs.Calls.{answer_words}
use Rattle.tables.specs.Promise.{Promise, SetupPromise}
use Rattle.audit_words.specs.Audit.{audit_words}
use Rattle.tables.specs.Room.{OfHead}
use Rattle.audit_words.specs.Promise.{AuditPromise}

-- ---- what can be asked: a call, an audit with a scratch of so many words, a setup
pub data Asked : Type 0 where
  Calling : Call → Asked
  Auditing : (scratch-words : ℕ) → Asked
  SettingUp : (size count : ℕ) → Asked

-- what was asked, and its answer
pub data Done : Type 0 where
  did : Asked → Answer → Done

-- a setup is lent the tables in which the words w stand; its arrays are those of w in place, and its own by value
pub record LentFrom (w : Words) (lent : Lent) : Type 0 where
  pub nodes_are : lent.nodes ≡ w.nodes
  pub pile_are : lent.pile ≡ w.pile

-- ---- one step: it finds the words w, and leaves the words v; an audit changes none of them
pub data Step (E : Edition) : Words → Asked → Answer → Words → Type 0 where
  called : {w v : Words} {c : Call} {a : Answer} → Promise E c w v a → Step E w (Calling c) a v
  audited : {w : Words} {n : ℕ} {scratch left : List ℕ} {a : Answer} → length scratch ≡ n → AuditPromise E w scratch left a
      → Step E w (Auditing n) a w
  set_up : {w v : Words} {size count : ℕ} {lent : Lent} {a : Answer} → LentFrom w lent → SetupPromise E size count lent v a
      → Step E w (SettingUp size count) a v

-- `Run E w ds u`: beginning with the words w, "under any calls that pass each head on and lend the same whole tables, written by nobody else": each
-- step is lent the words that the one before it left, and u are left at the end
pub data Run (E : Edition) : Words → List Done → Words → Type 0 where
  nothing : {w : Words} → Run E w [] w
  then : {w v u : Words} {q : Asked} {a : Answer} {ds : List Done} → Step E w q a v → Run E v ds u → Run E w (did q a ∷ ds) u

-- "to the next setup": no setup stands in it, refused or not
abbrev pub NoSetup : List Done → Type 0
NoSetup [] = Unit
NoSetup (did (Calling c) a ∷ ds) = NoSetup ds
NoSetup (did (Auditing n) a ∷ ds) = NoSetup ds
NoSetup (did (SettingUp size count) a ∷ ds) = ⊥

-- ---- what was asked, and all the answers
unfoldable pub asked_of : List Done → List Asked
asked_of [] = []
asked_of (did q a ∷ ds) = q ∷ asked_of ds

unfoldable pub answers_of : List Done → List Answer
answers_of [] = []
answers_of (did q a ∷ ds) = a ∷ answers_of ds

-- the calls among it, and each with its answer
unfoldable pub calls_of : List Done → List Call
calls_of [] = []
calls_of (did (Calling c) a ∷ ds) = c ∷ calls_of ds
calls_of (did (Auditing n) a ∷ ds) = calls_of ds
calls_of (did (SettingUp size count) a ∷ ds) = calls_of ds

unfoldable pub log_of : List Done → List Event
log_of [] = []
log_of (did (Calling c) a ∷ ds) = event c a ∷ log_of ds
log_of (did (Auditing n) a ∷ ds) = log_of ds
log_of (did (SettingUp size count) a ∷ ds) = log_of ds

-- ---- the same, from the other side: a run has everything that can be asked, in any order, and no answer but the promised one
-- the sizes of the setups are 32-bit numbers
abbrev pub SizesFit : List Asked → Type 0
SizesFit [] = Unit
SizesFit (Calling c ∷ qs) = SizesFit qs
SizesFit (Auditing n ∷ qs) = SizesFit qs
SizesFit (SettingUp size count ∷ qs) = (size < 2 ^ 32) × SizesFit qs

pub record RunMeans (E : Edition) : Type 0 where
  -- nothing is left out: from any words of a head, everything in qs can be asked, and is answered
  pub every_run : (w : Words) → OfHead E w → (qs : List Asked) → SizesFit qs
      → (ds : List Done) × (u : Words) × Run E w ds u × (asked_of ds ≡ qs)
  -- nor is any step: an audit with whatever its scratch held, a setup with whatever arrays it is lent beside the tables of w
  pub call_step : (c : Call) (w : Words) → Step E w (Calling c) (answer_words E c w).0 (answer_words E c w).1
  pub audit_step : (w : Words) (scratch : List ℕ) → OfHead E w → Step E w (Auditing (length scratch)) (audit_words E w scratch).0 w
  pub setup_step : (size count : ℕ) (w : Words) (lent : Lent) → size < 2 ^ 32 → lent.nodes ≡ w.nodes → lent.pile ≡ w.pile
      → Step E w (SettingUp size count) (setup_words E size count lent).0 (setup_words E size count lent).1
  -- and no step is more than that: each answer is the model's, and so is what the next step finds
  pub call_answered : {w u : Words} {c : Call} {a : Answer} {ds : List Done} → Run E w (did (Calling c) a ∷ ds) u
      → (a ≡ (answer_words E c w).0) × Run E (answer_words E c w).1 ds u
  pub audit_answered : {w u : Words} {n : ℕ} {a : Answer} {ds : List Done} → Run E w (did (Auditing n) a ∷ ds) u
      → (scratch : List ℕ) × (length scratch ≡ n) × (a ≡ (audit_words E w scratch).0) × Run E w ds u
  pub setup_answered : {w u : Words} {size count : ℕ} {a : Answer} {ds : List Done} → Run E w (did (SettingUp size count) a ∷ ds) u
      → (lent : Lent) × LentFrom w lent × (a ≡ (setup_words E size count lent).0) × Run E (setup_words E size count lent).1 ds u
  pub whole_tables : {w : Words} {lent : Lent} → LentFrom w lent → (lent.nodes ≡ w.nodes) × (lent.pile ≡ w.pile)
  pub sizes_fit : {w u : Words} {ds : List Done} → Run E w ds u → SizesFit (asked_of ds)
  pub ends_there : {w u : Words} → Run E w [] u → u ≡ w
  -- NoSetup shuts out setups, and nothing else
  pub no_setup : (before after : List Done) (size count : ℕ) (a : Answer) → NoSetup (before ++ (did (SettingUp size count) a ∷ after)) → ⊥
  pub only_setup : (ds : List Done)
      → ((before after : List Done) (size count : ℕ) (a : Answer) → ds ≡ before ++ (did (SettingUp size count) a ∷ after) → ⊥) → NoSetup ds
  -- every question and every answer is told, and every call with its event, each in its place, and no event beside them: so none can be left out of
  -- what the demands compare
  pub every_question : (before after : List Done) (q : Asked) (a : Answer)
      → asked_of (before ++ (did q a ∷ after)) ≡ asked_of before ++ (q ∷ asked_of after)
  pub every_answer : (before after : List Done) (q : Asked) (a : Answer)
      → answers_of (before ++ (did q a ∷ after)) ≡ answers_of before ++ (a ∷ answers_of after)
  pub every_call : (before after : List Done) (c : Call) (a : Answer)
      → calls_of (before ++ (did (Calling c) a ∷ after)) ≡ calls_of before ++ (c ∷ calls_of after)
  pub every_event : (before after : List Done) (c : Call) (a : Answer)
      → log_of (before ++ (did (Calling c) a ∷ after)) ≡ log_of before ++ (event c a ∷ log_of after)
  pub no_other_call : (ds : List Done) → map call_of (log_of ds) ≡ calls_of ds
  pub calls_alone : (ds : List Done)
      → ((before after : List Done) (c : Call) (a : Answer) → ds ≡ before ++ (did (Calling c) a ∷ after) → ⊥) → calls_of ds ≡ []
