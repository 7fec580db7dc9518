-- Runs of the calls in code with readings of a gauge among them, told by what their contracts promise and by nothing else. Assumes nothing.
use Rattle.std.specs.Prelude.{◌≡◌, ◌≢◌, List, [], ◌∷◌, ◌++◌, ℕ, ℤ, pos, ◌+ℤ◌, Float}
use Rattle.ledger.specs.Ledger.{Answer}
use Rattle.ledger.specs.Calls.{Fill, Ask}
use Rattle.tables.specs.Words.{Words, Edition}
use Rattle.tables.specs.Calls.{answer_words}
use Rattle.tables.specs.Room.{OfHead}
use Rattle.demands.specs.Runs as plain
use Rattle.demands.specs.Runs.{Step, SizesFit}
use Rattle.gauge.specs.Rule.{Watch}
use Rattle.gauge.specs.Answers.{Told, read, not_read, read_after}
use Rattle.gauge.specs.Promise.{ReadPromise}

-- ---- what can be asked: all that a run has, and a reading
pub data Asked : Type 0 where
  Other : plain.Asked → Asked
  Reading : Asked

-- what was asked and its answer, or what a reading told
pub data Done : Type 0 where
  did : plain.Asked → Answer → Done
  took : Told → Done

-- `GaugedRun E w g ds u h`: beginning with the words w and the gauge g, which goes from reading to reading as the head goes from call to call; the words
-- u and the gauge h are left at the end. A reading changes no word, and nothing else changes the gauge
pub data GaugedRun (E : Edition) : Words → Watch → List Done → Words → Watch → Type 0 where
  nothing : {w : Words} {g : Watch} → GaugedRun E w g [] w g
  then : {w v u : Words} {g h : Watch} {q : plain.Asked} {a : Answer} {ds : List Done} → Step E w q a v → GaugedRun E v g ds u h
      → GaugedRun E w g (did q a ∷ ds) u h
  reads : {w u : Words} {g f h : Watch} {t : Told} {ds : List Done} → ReadPromise E w g t f → GaugedRun E w f ds u h
      → GaugedRun E w g (took t ∷ ds) u h

-- ---- what was asked, and all but the readings
unfoldable pub asked_of : List Done → List Asked
asked_of [] = []
asked_of (did q a ∷ ds) = Other q ∷ asked_of ds
asked_of (took t ∷ ds) = Reading ∷ asked_of ds

unfoldable pub other_asked : List Asked → List plain.Asked
other_asked [] = []
other_asked (Other q ∷ qs) = q ∷ other_asked qs
other_asked (Reading ∷ qs) = other_asked qs

unfoldable pub others : List Done → List plain.Done
others [] = []
others (did q a ∷ ds) = plain.did q a ∷ others ds
others (took t ∷ ds) = others ds

-- ---- what the readings told: all of it; their net changes, added up; and the fill or the refusal of each alone
unfoldable pub told_of : List Done → List Told
told_of [] = []
told_of (did q a ∷ ds) = told_of ds
told_of (took t ∷ ds) = t ∷ told_of ds

abbrev pub net_of : Told → ℤ
net_of (read fill level peak net) = net
net_of (not_read k) = pos 0

unfoldable pub nets_of : List Told → ℤ
nets_of [] = pos 0
nets_of (t ∷ ts) = net_of t +ℤ nets_of ts

pub data Seen : Type 0 where
  full : (fill : ℕ) → Seen
  shut : (number : ℕ) → Seen

abbrev pub seen_of : Told → Seen
seen_of (read fill level peak net) = full fill
seen_of (not_read k) = shut k

-- ---- the same, from the other side
pub record GaugedRunMeans (E : Edition) : Type 0 where
  -- nothing is left out: from any words of a head, with any gauge at all, everything can be asked, readings anywhere
  pub every_run : (w : Words) (g : Watch) → OfHead E w → (qs : List Asked) → SizesFit (other_asked qs)
      → (ds : List Done) × (u : Words) × (h : Watch) × GaugedRun E w g ds u h × (asked_of ds ≡ qs)
  -- a reading tells what its promise says and nothing else, and the next step finds the same words, and the gauge that it left
  pub reading_told_lem : {w u : Words} {g h : Watch} {t : Told} {ds : List Done} → GaugedRun E w g (took t ∷ ds) u h
      → (t ≡ (read_after g (answer_words E (Ask Fill) w).0).0) × GaugedRun E w (read_after g (answer_words E (Ask Fill) w).0).1 ds u h
  -- any other step is one of the runs without gauges, and leaves the gauge
  pub other_step : {w u : Words} {g h : Watch} {q : plain.Asked} {a : Answer} {ds : List Done} → GaugedRun E w g (did q a ∷ ds) u h
      → (v : Words) × Step E w q a v × GaugedRun E v g ds u h
  pub ends_there : {w u : Words} {g h : Watch} → GaugedRun E w g [] u h → (u ≡ w) × (h ≡ g)
  -- every question, every other step and every reading is told, each in its place
  pub every_question : (before after : List Done) → asked_of (before ++ after) ≡ asked_of before ++ asked_of after
  pub every_other : (before after : List Done) (q : plain.Asked) (a : Answer)
      → others (before ++ (did q a ∷ after)) ≡ others before ++ (plain.did q a ∷ others after)
  pub no_other : (before after : List Done) (t : Told) → others (before ++ (took t ∷ after)) ≡ others before ++ others after
  pub every_reading : (before after : List Done) (t : Told) → told_of (before ++ (took t ∷ after)) ≡ told_of before ++ (t ∷ told_of after)
  pub no_other_reading : (before after : List Done) (q : plain.Asked) (a : Answer)
      → told_of (before ++ (did q a ∷ after)) ≡ told_of before ++ told_of after
  -- of a reading its fill or the number of its refusal is seen, and which of the two it is; and its net change is added up, of a refused one nothing
  pub fill_is_seen : (fill : ℕ) (level peak : Float) (net : ℤ) → seen_of (read fill level peak net) ≡ full fill
  pub number_is_seen : (k : ℕ) → seen_of (not_read k) ≡ shut k
  pub one_fill : (f e : ℕ) → full f ≡ full e → f ≡ e
  pub one_number : (k j : ℕ) → shut k ≡ shut j → k ≡ j
  pub told_apart : (f k : ℕ) → full f ≢ shut k
  pub nets_of_none : nets_of [] ≡ pos 0
  pub nets_of_read : (fill : ℕ) (level peak : Float) (net : ℤ) (ts : List Told) → nets_of (read fill level peak net ∷ ts) ≡ net +ℤ nets_of ts
  pub nets_of_refused : (k : ℕ) (ts : List Told) → nets_of (not_read k ∷ ts) ≡ nets_of ts
