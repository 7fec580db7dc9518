-- What is claimed of a replay: one record, which proofs/Claims.antt makes, and one of the base's edition, of proofs/SomeReplay.antt. Assumes nothing.
use Rattle.std.specs.Prelude.{◌≡◌, List, [], ◌∷◌, map, ℕ, length}
use Rattle.ledger.specs.Ledger as ledger
use Rattle.ledger.specs.Calls as ledger-calls
use Rattle.tables.specs.Words.{Words, Edition}
use Rattle.tables.specs.Setup.{Lent, zeros}
use Rattle.tables.specs.Calls.{edition32}
use Rattle.calls.specs.declared.Call.{Call}
use Rattle.calls.specs.declared.Call.TheVariants.{Take, HandBack, SetUp, Reset}
use Rattle.calls.specs.Values.{Answer, says}
use Rattle.records.specs.InWords.{InPlace, placed_words}
use Rattle.calling.specs.Makes.{lent_in}
use Rattle.journal.specs.declared.entry.Broken.{Broken}
use Rattle.journal.specs.Bytes.{AllBytes}
use Rattle.journal.specs.Reading.{Entry, read_at, Ending, ended, broken, Holds}
use Rattle.demands.specs.Demands.{Begun}
use Rattle.demands.specs.Runs.{Asked, Calling, SettingUp, Done, Run, asked_of}
use Rattle.demands.specs.Runs as runs
use Rattle.replaying.specs.Steps.{Outcome, Answered, AtEnd, BrokenOff, Steps}
use Rattle.replaying.specs.Meaning.{Standing, no_store, store, answers_of, standing_after}
use Rattle.replaying.specs.Replays.{Replays, StandsFor}

-- a call of a journal as the demands' runs have it
abbrev pub in_run : Call → Asked
in_run (Take size) = Calling (ledger-calls.takes size.0)
in_run (HandBack span) = Calling (ledger-calls.gives_back span.offset span.metadata.0)
in_run (SetUp size count) = SettingUp size.0 count
in_run Reset = Calling ledger-calls.Reset

pub record ReplayClaims (E : Edition) : Type 0 where
  -- ---- "A replay must end in the ledger that its calls define": from any standing, and from none, whatever the lent words hold
  pub as_meant : (bytes : List ℕ) (at : ℕ) (w u : Words) (given : List ledger.Answer) (end other : Ending) (cs : List Call) (s : Standing)
      → StandsFor E w s → Replays E bytes at w given end u → Holds bytes at cs other
      → (given ≡ answers_of E (length w.nodes) (length w.pile) cs s)
      × (end ≡ other)
      × StandsFor E u (standing_after E (length w.nodes) (length w.pile) cs s)
  pub from_none : (lent : Lent) → StandsFor E (zeros lent) no_store
  -- what it is for words to stand for no store, and for one: a head of zeros beside whatever the tables hold, and what the demands begin with
  pub no_store_is : (w : Words) → StandsFor E w no_store → w ≡ zeros (lent_in w)
  pub store_is : (w : Words) (size count : ℕ) (l : ledger.Ledger ledger.Stacks)
      → (StandsFor E w (store size count l) → Begun E size count l w) × (Begun E size count l w → StandsFor E w (store size count l))
  -- every chain of steps to an end is a replay
  pub may_end : (bytes : List ℕ) (at : ℕ) (w v : Words) → Steps E w v (read_at bytes at) AtEnd → Replays E bytes at w [] ended v
  pub may_break_off : (bytes : List ℕ) (at : ℕ) (w v : Words) (why : Broken) → Steps E w v (read_at bytes at) (BrokenOff why)
      → Replays E bytes at w [] (broken why) v
  pub may_go_on : (bytes : List ℕ) (at next : ℕ) (w v u : Words) (a : Answer) (given : List ledger.Answer) (end : Ending)
      → Steps E w v (read_at bytes at) (Answered a next) → Replays E bytes next v given end u → Replays E bytes at w (says a ∷ given) end u
  -- ---- every promise of the single calls holds of each: a replay is a run of the demands, with the journal's calls and those answers
  pub is_a_run : (bytes : List ℕ) (at : ℕ) (w u : Words) (given : List ledger.Answer) (end other : Ending) (cs : List Call)
      → Replays E bytes at w given end u → Holds bytes at cs other
      → (ds : List Done) × Run E w ds u × (asked_of ds ≡ map in_run cs) × (runs.answers_of ds ≡ given)
  -- ---- any two outcomes that a step's statement allows coincide, and so do any two replays
  pub one_step : (w v u : Words) (found : Entry) (one other : Outcome) → Steps E w v found one → Steps E w u found other → (one ≡ other) × (v ≡ u)
  -- the same over values of the code: what came of it, and the totals, arrays and tables that are left
  pub one_result : (w : Words) (v u : InPlace) (found : Entry) (one other : Outcome) → Steps E w (placed_words v) found one
      → Steps E w (placed_words u) found other → (one ≡ other) × (v ≡ u)
  pub one_replay : (bytes : List ℕ) (at : ℕ) (w v u : Words) (given others : List ledger.Answer) (end other : Ending)
      → Replays E bytes at w given end v → Replays E bytes at w others other u → (given ≡ others) × (end ≡ other) × (v ≡ u)

-- ---- in the base's edition
pub record BaseReplays : Type 0 where
  -- every journal has a replay, from any place and whatever words it is lent
  pub some_replay : (bytes : List ℕ) (at : ℕ) (w : Words) → AllBytes bytes
      → (given : List ledger.Answer) × (end : Ending) × (u : Words) × Replays edition32 bytes at w given end u
