-- The ledger is in order after the setup, after every call and after every run of calls. Assumes nothing.
use Rattle.ledger.specs.Ledger.{Engine, Ledger, setup, take}
use Rattle.ledger.specs.Laws.{Laws}
use Prim.Native.Nat.{ℕ, ◌-◌, ◌≤◌}
use native.Mathlib.Omega.{arith}
use mathlib.Core.List.{List, [], ◌∷◌}
use mathlib.Core.Path.{refl}
use mathlib.Core.Logic.{◌≢◌}
use Rattle.ledger.specs.Calls.{answer, end, Call, Reset}
use Rattle.ledger.specs.WellFormed.{WellFormed}
use Rattle.ledger.specs.Claims.{Reached}
use Rattle.ledger.proofs.KeptLine.{cut_lined, merge_lined, setup_lined}
use Rattle.ledger.proofs.KeptIndex.{cut_kept, merge_kept, setup_kept}
use Rattle.ledger.proofs.Cases.{TakeCase, few_spares, no_region, serves, take_case}
use Rattle.ledger.proofs.Outcomes.{CallCase, refuses, cuts, merges, resets, asks, call_case}

module _ (E : Engine) (laws : Laws E) where
  module _ (size count : ℕ) where
    pub take_well : (s : ℕ) (l : Ledger E.Index) → WellFormed E size count l → WellFormed E size count (take E s l).1
    take_well s l w = go (take_case E laws w s)
      where
        go : TakeCase E s l → WellFormed E size count (take E s l).1
        go (few_spares h e) = rw e w
        go (no_region h k e) = rw e w
        go (serves t) = rw t.outcome record {
          lined = cut_lined E size count s (t.n - s) l t.place (omega (arith, t.long_enough)) t.two_spare w.lined;
          kept = cut_kept E laws s (t.n - s) l t.place w.kept;
        }

    -- every call but a reset
    pub keeps_well : {c : Call} (l : Ledger E.Index) → WellFormed E size count l → CallCase E size count l c → c ≢ Reset
        → WellFormed E size count (answer E size count c l).1
    unfolding answer
    keeps_well l w (refuses k h e) other = rw e w
    keeps_well l w (cuts {asked = asked} t e) other = take_well asked.size l w
    keeps_well l w (merges n before after b p e) other =
        rw e record { lined = merge_lined E size count l b w.lined; kept = merge_kept E laws l b w.kept }
    keeps_well l w resets other = absurd (other refl)
    keeps_well l w asks other = w

  module _ (size count : ℕ) (two : 2 ≤ count) where
    pub setup_well : WellFormed E size count (setup E size count)
    setup_well = record { lined = setup_lined E size count two; kept = setup_kept E laws size count }

    pub call_well : (c : Call) (l : Ledger E.Index) → WellFormed E size count l → WellFormed E size count (answer E size count c l).1
    unfolding answer
    call_well c l w = go (call_case E laws size count w c)
      where
        go : {c : Call} → CallCase E size count l c → WellFormed E size count (answer E size count c l).1
        go (refuses k h e) = rw e w
        go (cuts {asked = asked} t e) = take_well size count asked.size l w
        go (merges n before after b p e) =
            rw e record { lined = merge_lined E size count l b w.lined; kept = merge_kept E laws l b w.kept }
        go resets = setup_well
        go asks = w

    pub end_well : (cs : List Call) (l : Ledger E.Index) → WellFormed E size count l → WellFormed E size count (end (answer E size count) cs l)
    unfolding answer end
    end_well [] l w = w
    end_well (c ∷ cs) l w = end_well cs (answer E size count c l).1 (call_well c l w)

    pub reached_well : (l : Ledger E.Index) → Reached E size count l → WellFormed E size count l
    reached_well l h = rw h.1 (end_well h.0 (setup E size count) setup_well)
