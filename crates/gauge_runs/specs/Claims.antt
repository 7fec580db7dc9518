-- What document 02 says of the gauge, over runs of the calls in code with readings among them: one record, which proofs/Claims.antt makes. What holds of
-- the numbers alone is in gauge/specs/Claims.antt. Assumes nothing.
use Rattle.std.specs.Prelude.{◌≡◌, List, [], ◌∷◌, ◌++◌, map, ◌↔◌, ◌≢◌, ℕ, ◌-◌, ◌≤◌, ◌<◌, pos, ◌+ℤ◌, length}
use Rattle.basics.specs.Sum.{tally}
use Rattle.ledger.specs.Ledger.{Ledger, Stacks, reported, setup, by_class}
use Rattle.ledger.specs.Fill.{live_units, fill_of}
use Rattle.ledger.specs.History.{Span, out_after}
use Rattle.ledger.specs.Stretch.{Stretch}
use Rattle.tables.specs.Words.{Words, Edition}
use Rattle.tables.specs.Room.{Room}
use Rattle.tables.specs.Claims.{OneOf, BadCount, TooShort}
use Rattle.demands.specs.Runs.{Run, NoSetup, answers_of, log_of}
use Rattle.demands.specs.Demands.{Begun, Since, ledger_after}
use Rattle.gauge.specs.Rule as rule
use Rattle.gauge.specs.Rule.{Watch, Reached}
use Rattle.gauge.specs.Answers.{Told, not_read, read_after}
use Rattle.gauge.specs.Promise.{ReadPromise}
use Rattle.gauge_runs.specs.Runs.{Done, took, GaugedRun, asked_of, others, told_of, net_of, nets_of, seen_of}

-- what was done since a beginning, to the next setup, readings included, with the gauge at first and now
pub record GaugedSince (E : Edition) (size count : ℕ) (l : Ledger Stacks) (at_first : Words) (g : Watch) (ds : List Done) (now : Words) (h : Watch)
    : Type 0 where
  pub begun : Begun E size count l at_first
  pub run : GaugedRun E at_first g ds now h
  pub no_setup : NoSetup (others ds)

-- the same, from the other side: it asks no more than these three, and no less
pub record GaugedSinceMeans (E : Edition) : Type 0 where
  pub since_exactly : {size count : ℕ} {l : Ledger Stacks} {at_first now : Words} {g h : Watch} {ds : List Done}
      → GaugedSince E size count l at_first g ds now h ↔ (Begun E size count l at_first × GaugedRun E at_first g ds now h × NoSetup (others ds))

pub record GaugeDemands (E : Edition) : Type 0 where
  -- ---- "A refused reading (6 or 2) leaves the gauge as it came."
  pub numbered : {w : Words} {g h : Watch} {k : ℕ} → ReadPromise E w g (not_read k) h → OneOf (6 ∷ 2 ∷ []) k
  pub refusal_keeps : {w : Words} {g h : Watch} {t : Told} (k : ℕ) → ReadPromise E w g t h → t ≡ not_read k → h ≡ g
  -- 6 for the head's count before 2 for the tables, as every call; then 6 where more is kept as free than there is, and on no other words
  pub bad_count_6 : {w : Words} {g h : Watch} {t : Told} → ReadPromise E w g t h → BadCount E w.count → t ≡ not_read 6
  pub too_short_2 : {w : Words} {g h : Watch} {t : Told} → ReadPromise E w g t h → TooShort E w.count (length w.nodes) (length w.pile)
      → t ≡ not_read 2
  pub too_much_free_6 : {w : Words} {g h : Watch} {t : Told} → ReadPromise E w g t h → w.size < w.free_storage
      → Room E w.count (length w.nodes) (length w.pile) → t ≡ not_read 6
  pub else_read : {w : Words} {g h : Watch} {t : Told} → ReadPromise E w g t h → w.free_storage ≤ w.size
      → Room E w.count (length w.nodes) (length w.pile)
      → let units = w.size - w.free_storage in (t, h) ≡ read_after g (reported units (fill_of units w.size))
  -- ---- "On each reading let fill be floor(256 * live units / size)": wherever it stands in a run from an accepted setup or reset, a reading is not
  -- refused, and goes by the lengths of the ledger's live regions, summed
  pub by_the_ledger : {size count : ℕ} {l : Ledger Stacks} {at_first now : Words} {g at h : Watch} {t : Told} {ds : List Done}
      → GaugedSince E size count l at_first g ds now at → ReadPromise E now at t h
      → let units = live_units (ledger_after size count l (others ds)) in (t, h) ≡ read_after at (reported units (fill_of units size))
  -- since a setup or a reset these are the spans that are out by the history of calls and answers alone, their sizes as asked for, summed
  pub by_the_history : {size count : ℕ} {at_first now : Words} {g at h : Watch} {t : Told} {ds : List Done}
      → GaugedSince E size count (setup by_class size count) at_first g ds now at → ReadPromise E now at t h
      → let units = tally (λ (x : Span). x.size) (out_after (log_of (others ds)) []) in (t, h) ≡ read_after at (reported units (fill_of units size))
  -- ---- "in any gauge begun at 0": on whatever words its readings were taken, spoiled ones included, it stays one of those of which
  -- gauge/specs/Claims.antt speaks
  pub stays_begun : {w u : Words} {g h : Watch} {ds : List Done} → GaugedRun E w g ds u h → Reached g → Reached h
  -- ---- "the net change of live units since the last reading ..; the first counts from 0": over a run, whatever stands between its readings, they add up
  pub nets_add_up : {w u : Words} {g h : Watch} {ds : List Done} → GaugedRun E w g ds u h
      → nets_of (told_of ds) +ℤ pos g.last ≡ pos h.last
  -- and so, from a gauge just begun up to a reading at its end, to the live units there
  pub nets_are_live : {size count : ℕ} {l : Ledger Stacks} {at_first now : Words} {g at h : Watch} {t : Told} {ds : List Done}
      → GaugedSince E size count l at_first g ds now at → ReadPromise E now at t h → g.last ≡ 0
      → nets_of (told_of (ds ++ (took t ∷ []))) ≡ pos (live_units (ledger_after size count l (others ds)))
  -- ---- "Reading the gauge changes no table": without its readings a run is one of the calls alone, with the same answers and the same words at its end
  pub no_table : {w u : Words} {g h : Watch} {ds : List Done} → GaugedRun E w g ds u h → Run E w (others ds) u
  -- the same since a beginning: without its readings it is one of the demands'
  pub since : {size count : ℕ} {l : Ledger Stacks} {at_first now : Words} {g h : Watch} {ds : List Done}
      → GaugedSince E size count l at_first g ds now h → Since E size count l at_first (others ds) now
  -- ---- "in demand 3's stretch it sways later readings only": readings may stand in the stretch, before it and after it, whatever the gauge. Everything
  -- but later readings answers as though the stretch had never been
  pub as_never : {size count : ℕ} {l : Ledger Stacks} {at_first at-the-moment after-the-stretch one_end other-end : Words}
      {g g-then g-after g_end g-other : Watch} {before stretch later instead : List Done}
      → GaugedSince E size count l at_first g before at-the-moment g-then
      → GaugedRun E at-the-moment g-then stretch after-the-stretch g-after → NoSetup (others stretch) → Stretch [] (log_of (others stretch))
      → GaugedRun E after-the-stretch g-after later one_end g_end → GaugedRun E at-the-moment g-then instead other-end g-other
      → asked_of later ≡ asked_of instead
      → answers_of (others later) ≡ answers_of (others instead)
  -- that later readings have to be excepted: of two in a row, of a store in which a unit is live, the second tells another net change
  pub readings_are_swayed : (units fill : ℕ) → 0 < units
      → net_of (read_after rule.begun (reported units fill)).0 ≢ net_of (read_after (read_after rule.begun (reported units fill)).1 (reported units fill)).0
  -- and of later readings only level, peak and net change are swayed: their fills are the same, and so are their refusals
  pub same_fills : {size count : ℕ} {l : Ledger Stacks} {at_first at-the-moment after-the-stretch one_end other-end : Words}
      {g g-then g-after g_end g-other : Watch} {before stretch later instead : List Done}
      → GaugedSince E size count l at_first g before at-the-moment g-then
      → GaugedRun E at-the-moment g-then stretch after-the-stretch g-after → NoSetup (others stretch) → Stretch [] (log_of (others stretch))
      → GaugedRun E after-the-stretch g-after later one_end g_end → GaugedRun E at-the-moment g-then instead other-end g-other
      → asked_of later ≡ asked_of instead
      → map seen_of (told_of later) ≡ map seen_of (told_of instead)
