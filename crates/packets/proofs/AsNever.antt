-- Demand 3, for each store's spans: after a stretch all is told as though the stretch had never been. Assumes nothing.
use mathlib.Core.Path.{◌≡◌, refl, ap, subst, ◌∙◌}
use mathlib.Core.Logic.{inl}
use mathlib.Core.List.{List, []}
use Prim.Native.Nat.{◌^◌, ◌≤◌, ◌<◌}
use native.Mathlib.Omega.{arith}
use lib.ListN.{length}
use Rattle.ledger.specs.Ledger.{Ledger, Answer, Stacks}
use Rattle.ledger.specs.Stretch as ledger
use Rattle.ledger.proofs.Claims as ledgers
use Rattle.tables.specs.Words.{Words, Edition}
use Rattle.tables.specs.Sound.{Sound}
use Rattle.tables.proofs.Claims as tables
use Rattle.demands.specs.Runs as below
use Rattle.demands.specs.Runs.{Done, Run, NoSetup, log_of, calls_of}
use Rattle.demands.proofs.Demands.{demands}
use Rattle.demands.proofs.Twins.{run_lengths}
use Rattle.packets.specs.declared.Store.TheVariants.{OnChip, External}
use Rattle.packets.specs.Stores.{Kept, Two}
use Rattle.packets.specs.Runs.{Happened, PacketRun, asked_of}
use Rattle.packets.specs.Shelf.{Held}
use Rattle.packets.specs.Stretch.{PacketStretch, all_told}
use Rattle.packets.specs.Claims.{AllBare}
use Rattle.packets.proofs.Stood.{Stood, not_there, there}
use Rattle.packets.proofs.RunStands.{store_stands}
use Rattle.packets.proofs.StretchRuns.{Stretched, both_stretched}
use Rattle.packets.proofs.StoreTwins.{stand, neither, Twin, same_size}
use Rattle.packets.proofs.RunTwins.{told_alike}

module _ (E : Edition) where
  -- ---- where no store is, calls leave every word
  pub none_stays : {w v : Words} {ds : List Done} → w.count ≡ 0 → NoSetup ds → Run E w ds v → v ≡ w
  none_stays e n below.nothing = refl
  none_stays {w} e n (below.then (below.called {v = next} {c = c} p) rest) =
      let same : next ≡ w = ap (λ (x : Answer × Words). x.1) (p.exact ∙ (tables.claims E).call_6 c w (inl (omega (arith, e)))) in
      none_stays (ap (λ (x : Words). x.count) same ∙ e) n rest ∙ same
  none_stays e n (below.then (below.audited f p) rest) = none_stays e n rest
  none_stays e n (below.then (below.set_up f p) rest) = absurd n

  -- ---- where a ledger stands, the same stands after the stretch
  restored : {w v : Words} {ds : List Done} (l : Ledger Stacks) → Sound E w l → Run E w ds v → NoSetup ds → ledger.Stretch [] (log_of ds)
      → Sound E v l
  restored {w} {v} {ds} l S run n h =
      let two : 2 ≤ w.count = S.room.tables.count_low in
      let small : w.size < 2 ^ 32 = omega (arith, S.room.of_head.size_fits, E.fits) in
      let stretched = (demands E).as_the_ledger record { begun = record { in_order = S.well; stands = S }; run = run; no_setup = n } in
      let same = (ledgers.claims w.size w.count small two).shared.stretch_restores (calls_of ds) l S.well
      (subst (ledger.Stretch []) stretched.0 h) in
      subst (Sound E v) same stretched.1

  -- ---- so each store after the stretch is a twin of what it was
  stretched_twin : {k m : Kept} {held : List Held} → Stood E k held → Stretched E [] k m → Twin E m k
  stretched_twin {k} {m} (not_there c s e) h =
      let same = none_stays c h.no_setup h.run in
      let size_is : m.words.size ≡ k.words.size = ap (λ (x : Words). x.size) same in
      record {
        nodes_are = ap (λ (x : Words). length x.nodes) same;
        pile_are = ap (λ (x : Words). length x.pile) same;
        bytes_are = h.same_bytes;
        alike = record {
          ledgers = neither (ap (λ (x : Words). x.count) same ∙ c) c;
          fits = omega (arith, size_is, s);
          fits_too = omega (arith, s);
        };
      }
  stretched_twin {k} {m} (there l s) h =
      let S = restored l s.sound h.run h.no_setup h.stretch in
      let lengths = run_lengths E h.run in
      record {
        nodes_are = lengths.nodes_are;
        pile_are = lengths.pile_are;
        bytes_are = h.same_bytes;
        alike = record {
          ledgers = stand l S s.sound;
          fits = omega (arith, same_size s.sound S, h.same_bytes, s.long_enough);
          fits_too = omega (arith, h.same_bytes, s.long_enough);
        };
      }

  pub as_never : {t at-the-moment after-the-stretch one_end other-end : Two} {before stretch later instead : List Happened} → AllBare E t
      → PacketRun E t before at-the-moment → PacketRun E at-the-moment stretch after-the-stretch → PacketStretch [] [] stretch
      → PacketRun E after-the-stretch later one_end → PacketRun E at-the-moment instead other-end → asked_of later ≡ asked_of instead
      → all_told later ≡ all_told instead
  as_never bare first run stretch later instead same =
      let both = both_stretched E stretch run in
      told_alike E record {
        on_chip_twins = stretched_twin (store_stands E bare first OnChip) both.0;
        external_twins = stretched_twin (store_stands E bare first External) both.1;
      } later instead same
