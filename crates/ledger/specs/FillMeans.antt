-- What live units and fill mean, told from the other side, and rows. proofs/Fills.antt makes them. Assumes nothing.
use Rattle.std.specs.Prelude.{◌≡◌, ℕ, ◌+◌, ◌*◌, ◌≤◌, ◌<◌, List, [], ◌∷◌}
use Rattle.basics.specs.Sum.{tally}
use Rattle.ledger.specs.Ledger.{Engine, Ledger, free_len, setup, granted, done, reported, refused}
use Rattle.ledger.specs.Fill.{live_units, fill_of}
use Rattle.ledger.specs.Calls.{Call, Report, Fill, Ask, takes, gives_back, told, answer, end, log}
use Rattle.ledger.specs.WellFormed.{WellFormed}
use Rattle.ledger.specs.History.{Span, out_after}
use Rattle.ledger.specs.RunToFollow.{Answering}

-- "floor(256 * live units / size)": the only number that is not above it, and not by one or more below it; "or 0 for size 0"
pub record FloorMeans : Type 0 where
  pub not_above : (units size : ℕ) → fill_of units size * size ≤ 256 * units
  pub not_below : (units size : ℕ) → 0 < size → 256 * units < (fill_of units size + 1) * size
  pub of_none : (units : ℕ) → fill_of units 0 ≡ 0

pub record FillMeans (E : Engine) (size count : ℕ) : Type 0 where
  -- what is not free is live
  pub live_and_free : (l : Ledger E.Index) → WellFormed E size count l → live_units l + tally free_len l.line ≡ size
  pub fill_at_most : (l : Ledger E.Index) → WellFormed E size count l → fill_of (live_units l) size ≤ 256
  -- the spans that are out by the history of calls and answers alone, their sizes as asked for, summed
  pub live_by_history : (cs : List Call)
      → live_units (end (answer E size count) cs (setup E size count))
      ≡ tally (λ (x : Span). x.size) (out_after (log (answer E size count) cs (setup E size count)) [])
  -- the question gives these two figures
  pub fill_told : (l : Ledger E.Index) → told E size count Fill l ≡ reported (live_units l) (fill_of (live_units l) size)

-- ---- rows of what the question answers
pub record FillRows : Type 0 where
  -- along document 01's run: cut and not rounded, and not by a refused take
  pub along_the_run : Answering 100 6
      (Ask Fill ∷ takes 20 ∷ takes 30 ∷ Ask Fill ∷ takes 49 ∷ Ask Fill ∷ takes 48 ∷ Ask Fill ∷ gives_back 20 1 ∷ Ask Fill ∷ [])
      (reported 0 0 ∷ granted 0 0 ∷ granted 20 1 ∷ reported 50 128 ∷ refused 4 ∷ reported 50 128 ∷ granted 50 2 ∷ reported 98 250 ∷ done
      ∷ reported 68 174 ∷ [])
  -- a full store; one of no size; and one with one spare record, of which the report tells nothing
  pub all_live : Answering 64 4 (takes 64 ∷ Ask Fill ∷ []) (granted 0 0 ∷ reported 64 256 ∷ [])
  pub no_size : Answering 0 4 (takes 0 ∷ Ask Fill ∷ []) (granted 0 0 ∷ reported 0 0 ∷ [])
  pub one_spare : Answering 100 3 (takes 20 ∷ Ask Report ∷ Ask Fill ∷ []) (granted 0 0 ∷ reported 0 0 ∷ reported 20 51 ∷ [])
