-- What document 02 says of the gauge over runs, by citation. Assumes nothing.
use mathlib.Core.Path.{◌≡◌, sym, ap, subst, ◌∙◌}
use mathlib.Core.Logic.{◌≢◌}
use mathlib.Core.List.{List, [], ◌∷◌, ◌++◌, map}
use Prim.Native.Nat.{ℕ, ◌≤◌, ◌<◌}
use native.Mathlib.Omega.{arith}
use lib.IntN.{pos, ◌+ℤ◌, ◌-ℤ◌, nat_abs, +ℤ_idr, +ℤ_invr}
use Rattle.basics.specs.Sum.{tally}
use Rattle.basics.proofs.Clash.{clash}
use Rattle.ledger.specs.Ledger.{Ledger, Stacks, Answer, reported, refused, setup, by_class}
use Rattle.ledger.specs.Fill.{live_units, fill_of}
use Rattle.ledger.specs.Calls.{Fill, Ask, Event}
use Rattle.ledger.specs.History.{Span, out_after}
use Rattle.ledger.proofs.Fills.{fill_means}
use Rattle.ledger.proofs.ByClass.{class_laws}
use Rattle.ledger.specs.Stretch.{Stretch}
use Rattle.tables.specs.Words.{Words, Edition}
use Rattle.tables.specs.Calls.{answer_words}
use Rattle.tables.specs.Claims.{OneOf}
use Rattle.tables.proofs.Claims as tables
use Rattle.demands.specs.Runs as plain
use Rattle.demands.specs.Runs.{NoSetup, answers_of, calls_of, log_of}
use Rattle.demands.specs.Demands.{Since, ledger_after}
use Rattle.demands.proofs.Demands.{since_means, demands}
use Rattle.gauge.specs.Rule as rule
use Rattle.gauge.specs.Rule.{Watch, Reached, after, net_change, watch_after}
use Rattle.gauge.specs.Answers.{Told, not_read, read_after}
use Rattle.gauge.specs.Promise.{ReadPromise}
use Rattle.gauge_runs.specs.Runs.{Done, took, GaugedRun, nothing, then, reads, asked_of, other_asked, others, told_of, net_of, nets_of, seen_of}
use Rattle.gauge_runs.specs.Claims.{GaugedSince, GaugedSinceMeans, GaugeDemands}
use Rattle.gauge_runs.proofs.Readings.{ReadCase, kept, moved, read_case, too_much_free, no_more_free}
use Rattle.gauge_runs.proofs.Runs.{others_asked, without, questions, as_questions, seen_alike, and_reads}
use Rattle.gauge_runs.proofs.Nets.{nets_add_up}

module _ (E : Edition) where
  -- ---- refusals: the words' answer is one
  refused_told : {w : Words} {g h : Watch} {t : Told} (k : ℕ) → ReadPromise E w g t h → (answer_words E (Ask Fill) w).0 ≡ refused k → t ≡ not_read k
  unfolding read_after
  refused_told {g = g} k p e = ap (λ (x : Told × Watch). x.0) (p.exact ∙ ap (read_after g) e)

  -- ---- by the ledger
  module _ {size count : ℕ} {l : Ledger Stacks} {at_first now : Words} {past : List plain.Done} (s : Since E size count l at_first past now) where
    abbrev now_ledger : Ledger Stacks
    now_ledger = ledger_after size count l past

    size_is : now.size ≡ size
    size_is = sym ((demands E).as_the_ledger s).1.well.lined.cover ∙ ((demands E).well_formed s).1.lined.cover

    pub by_the_ledger : {at h : Watch} {t : Told} → ReadPromise E now at t h
        → (t, h) ≡ read_after at (reported (live_units now_ledger) (fill_of (live_units now_ledger) size))
    by_the_ledger {at = at} p =
        p.ledger now_ledger ((demands E).as_the_ledger s).1
        ∙ ap (λ (n : ℕ). read_after at (reported (live_units now_ledger) (fill_of (live_units now_ledger) n))) size_is

    pub last_is : {at h : Watch} {t : Told} → ReadPromise E now at t h → h.last ≡ live_units now_ledger
    unfolding read_after watch_after
    last_is p = ap (λ (x : Told × Watch). x.1.last) (by_the_ledger p)

  since : {size count : ℕ} {l : Ledger Stacks} {at_first now : Words} {g h : Watch} {ds : List Done}
      → GaugedSince E size count l at_first g ds now h → Since E size count l at_first (others ds) now
  since s = record { begun = s.begun; run = without E s.run; no_setup = s.no_setup }

  nets_are_live : {size count : ℕ} {l : Ledger Stacks} {at_first now : Words} {g at h : Watch} {t : Told} {ds : List Done}
      → GaugedSince E size count l at_first g ds now at → ReadPromise E now at t h → g.last ≡ 0
      → nets_of (told_of (ds ++ (took t ∷ []))) ≡ pos (live_units (ledger_after size count l (others ds)))
  nets_are_live {g = g} {t = t} {ds = ds} s p first =
      let nets = nets_of (told_of (ds ++ (took t ∷ []))) in
      sym (+ℤ_idr nets) ∙ ap (λ (n : ℕ). nets +ℤ pos n) (sym first) ∙ nets_add_up E (and_reads E s.run p) ∙ ap pos (last_is (since s) p)

  by_the_history : {size count : ℕ} {at_first now : Words} {g at h : Watch} {t : Told} {ds : List Done}
      → GaugedSince E size count (setup by_class size count) at_first g ds now at → ReadPromise E now at t h
      → let units = tally (λ (x : Span). x.size) (out_after (log_of (others ds)) []) in (t, h) ≡ read_after at (reported units (fill_of units size))
  by_the_history {size} {count} {at_first = at_first} {at = at} {ds = ds} s p =
      let two : 2 ≤ count
      = omega (arith, ((since_means E).begun_says size count (setup by_class size count) at_first s.begun).1, s.begun.stands.room.tables.count_low) in
      let known = (fill_means by_class class_laws size count two).live_by_history (calls_of (others ds)) in
      let logged = ((demands E).as_the_ledger (since s)).0 in
      let units-are : live_units (ledger_after size count (setup by_class size count) (others ds))
      ≡ tally (λ (x : Span). x.size) (out_after (log_of (others ds)) [])
      = known ∙ ap (λ (es : List Event). tally (λ (x : Span). x.size) (out_after es [])) (sym logged) in
      by_the_ledger (since s) p ∙ ap (λ (n : ℕ). read_after at (reported n (fill_of n size))) units-are

  -- ---- a gauge begun at 0
  stays_begun : {w u : Words} {g h : Watch} {ds : List Done} → GaugedRun E w g ds u h → Reached g → Reached h
  stays_begun nothing r = r
  stays_begun (then s rest) r = stays_begun rest r
  stays_begun (reads {g = g} p rest) r = stays_begun rest (next (read_case E p))
    where
      next : {t : Told} {f : Watch} → ReadCase g t f → Reached f
      next (kept k number t-is f-is) = subst Reached (sym f-is) r
      next (moved units fill most t-is f-is) = subst Reached (sym f-is) (after units fill most r)

  -- ---- demand 3
  module _ {size count : ℕ} {l : Ledger Stacks} {at_first at-the-moment after-the-stretch one_end other-end : Words}
      {g-then g-after g_end g-other : Watch} {past : List plain.Done} {stretch later instead : List Done}
      (s : Since E size count l at_first past at-the-moment)
      (run : GaugedRun E at-the-moment g-then stretch after-the-stretch g-after) (n : NoSetup (others stretch))
      (h : Stretch [] (log_of (others stretch))) (after-it : GaugedRun E after-the-stretch g-after later one_end g_end)
      (without-it : GaugedRun E at-the-moment g-then instead other-end g-other) (same : asked_of later ≡ asked_of instead) where
    pub as_never : answers_of (others later) ≡ answers_of (others instead)
    as_never =
        (demands E).as_never s (without E run) n h (without E after-it) (without E without-it)
        (others_asked later ∙ ap other_asked same ∙ sym (others_asked instead))

    pub same_fills : map seen_of (told_of later) ≡ map seen_of (told_of instead)
    same_fills =
        let one = as_questions E after-it in
        let other = as_questions E without-it in
        seen_alike E one other same
        ((demands E).as_never s (without E run) n h one.run other.run (one.same_asked ∙ ap questions same ∙ sym other.same_asked))

pub gauged_since_means : (E : Edition) → GaugedSinceMeans E
gauged_since_means E = record {
  since_exactly = (λ s. (s.begun, s.run, s.no_setup), λ x. record { begun = x.0; run = x.1; no_setup = x.2 });
}

-- the first counts from 0, and the second from the first
swayed : (units fill : ℕ) → 0 < units
    → net_of (read_after rule.begun (reported units fill)).0 ≢ net_of (read_after (read_after rule.begun (reported units fill)).1 (reported units fill)).0
unfolding read_after watch_after net_change
swayed units fill some e =
    let nothing-more : pos units -ℤ pos units ≡ pos 0 = +ℤ_invr (pos units) in
    let all : pos units -ℤ pos 0 ≡ pos units = +ℤ_idr (pos units) in
    let same : pos units ≡ pos 0 = sym all ∙ e ∙ nothing-more in
    absurd (omega (arith, ap nat_abs same))

pub gauge_demands : (E : Edition) → GaugeDemands E
gauge_demands E = record {
  numbered = numbered;
  refusal_keeps = λ k p e. p.kept k e;
  bad_count_6 = λ {w = w} p b. refused_told E 6 p (ap (λ (x : Answer × Words). x.0) ((tables.claims E).call_6 (Ask Fill) w b));
  too_short_2 = λ {w = w} p b. refused_told E 2 p (ap (λ (x : Answer × Words). x.0) ((tables.claims E).call_2 (Ask Fill) w b));
  too_much_free_6 = λ {w = w} p more room. refused_told E 6 p (too_much_free E w room more);
  else_read = λ {w = w} {g = g} p no_more room. p.exact ∙ ap (read_after g) (no_more_free E w room no_more);
  by_the_ledger = λ s p. by_the_ledger E (since E s) p;
  by_the_history = by_the_history E;
  stays_begun = stays_begun E;
  nets_add_up = nets_add_up E;
  nets_are_live = nets_are_live E;
  no_table = without E;
  since = since E;
  as_never = λ s run n h after-it without-it same. as_never E (since E s) run n h after-it without-it same;
  readings_are_swayed = swayed;
  same_fills = λ s run n h after-it without-it same. same_fills E (since E s) run n h after-it without-it same;
}
  where
    numbered : {w : Words} {g h : Watch} {k : ℕ} → ReadPromise E w g (not_read k) h → OneOf (6 ∷ 2 ∷ []) k
    numbered {k = k} p = elim (read_case E p) [
      | kept j number t-is f-is ↦ let same : j ≡ k = cc in subst (OneOf (6 ∷ 2 ∷ [])) same number
      | moved units fill most t-is f-is ↦ clash (cc)
    ]
