-- With count n no more than n - 2 spans are ever live. Assumes nothing.
use Rattle.ledger.specs.Ledger.{Engine, Ledger, cut, setup, Region, live, free}
use Rattle.ledger.specs.Laws.{Laws}
use mathlib.Core.Path.{refl}
use Prim.Native.Nat.{ℕ, zero, suc, ◌+◌, ◌-◌, ◌≤◌}
use native.Mathlib.Omega.{arith}
use mathlib.Core.List.{List, [], ◌∷◌}
use lib.ListN.{length, get_or, length-reverse_aux}
use Rattle.basics.specs.Sum.{tally}
use Rattle.basics.proofs.Sums.{tally_reverse_aux, tally_le, tally_length}
use Rattle.ledger.specs.Calls.{answer, end, Call}
use Rattle.ledger.specs.WellFormed.{WellFormed}
use Rattle.ledger.specs.History.{live_one}
use Rattle.ledger.specs.Claims.{Reached}
use Rattle.ledger.proofs.Records.{all_records}
use Rattle.ledger.proofs.LiveSums.{merge_takes}
use Rattle.ledger.proofs.Outcomes.{CallCase, refuses, cuts, merges, resets, asks, call_case}
use Rattle.ledger.proofs.CallsWell.{take_well, setup_well, call_well}

module _ (E : Engine) (laws : Laws E) where
  live_of_all : (line : List Region) → tally live_one line ≤ length line
  live_of_all line = omega (arith, tally_length line, tally_le live_one (λ x. 1) at_most_one line)
    where
      at_most_one : (x : Region) → live_one x ≤ 1
      at_most_one (live n r) = omega arith
      at_most_one (free n r) = omega arith

  -- after a grant two records are not live: two spares, or a spare and the remainder
  cut_at_most : (size count s k n r : ℕ) (before after : List Region) (l : Ledger E.Index) → 2 ≤ length l.pile
      → WellFormed E size count (cut E s k before n r after l) → tally live_one (cut E s k before n r after l).line + 2 ≤ count
  unfolding cut
  cut_at_most size count s zero n r before after l two w =
      omega (arith, all_records w.lined, live_of_all (cut E s zero before n r after l).line)
  cut_at_most size count s (suc k) n r before after l two w =
      let remainder = free (suc k) (get_or l.pile 0 0) in
      omega (
        arith,
        all_records w.lined,
        w.lined.spare,
        tally_reverse_aux live_one before (live s r ∷ remainder ∷ after),
        length-reverse_aux before (live s r ∷ remainder ∷ after),
        live_of_all before,
        live_of_all after,
      )

  module _ (size count : ℕ) (two : 2 ≤ count) where
    call_at_most : (c : Call) (l : Ledger E.Index) → WellFormed E size count l → tally live_one l.line + 2 ≤ count
        → tally live_one (answer E size count c l).1.line + 2 ≤ count
    unfolding answer setup
    call_at_most c l w h = go (call_case E laws size count w c)
      where
        go : {c : Call} → CallCase E size count l c → tally live_one (answer E size count c l).1.line + 2 ≤ count
        go (refuses k r e) = rw e h
        go (cuts {asked = asked} t e) =
            let s = asked.size in
            rw t.outcome
            (cut_at_most size count s (t.n - s) t.n t.r t.before t.after l t.two_spare
            (rw t.outcome at (take_well E laws size count s l w)))
        go (merges n before after b p e) = rw e (omega (arith, merge_takes E live_one (λ m p. refl) l b))
        go resets = omega arith
        go asks = h

    calls_at_most : (cs : List Call) (l : Ledger E.Index) → WellFormed E size count l → tally live_one l.line + 2 ≤ count
        → tally live_one (end (answer E size count) cs l).line + 2 ≤ count
    unfolding answer end
    calls_at_most [] l w h = h
    calls_at_most (c ∷ cs) l w h =
        calls_at_most cs (answer E size count c l).1 (call_well E laws size count two c l w) (call_at_most c l w h)

    pub live_at_most : (l : Ledger E.Index) → Reached E size count l → tally live_one l.line + 2 ≤ count
    unfolding setup
    live_at_most l h = rw h.1 (calls_at_most h.0 (setup E size count) (setup_well E laws size count two) (omega arith))
