-- Every claim of a replay. Assumes nothing.
use mathlib.Core.Path.{◌≡◌, refl, sym, ap, subst, ◌∙◌}
use mathlib.Core.List.{List, [], ◌∷◌, map}
use Prim.Native.Nat.{ℕ}
use lib.ListN.{length}
use Rattle.basics.proofs.Clash.{clash}
use Rattle.ledger.specs.Ledger as ledger
use Rattle.tables.specs.Words.{Words, Edition}
use Rattle.tables.specs.Setup.{zeros}
use Rattle.calls.specs.declared.Call.{Call}
use Rattle.calls.specs.declared.Call.TheVariants.{Take, HandBack, SetUp, Reset}
use Rattle.calls.specs.Values.{says}
use Rattle.calling.specs.Makes.{lent_in, Makes}
use Rattle.journal.specs.Reading.{Ending, broken, Holds, no_more, breaks, one_more}
use Rattle.journal.proofs.WasWritten.{same_read}
use Rattle.demands.specs.Runs.{Asked, Step, called, set_up, Done, did, Run, nothing, then, asked_of}
use Rattle.demands.specs.Runs as runs
use Rattle.replaying.specs.Meaning.{Standing, meant, answers_of, standing_after}
use Rattle.replaying.specs.Replays.{Replays, ends, breaks_off, goes_on, NoStore, StandsFor}
use Rattle.replaying.specs.Claims.{in_run, ReplayClaims}
use Rattle.replaying.proofs.AsMeant.{call_meets, from_none}
use Rattle.replaying.proofs.OneReplay.{ended_means, broken_means, answered_means, one_step, one_result, one_replay}

module _ (E : Edition) where
  -- what a replay comes to, with tables of these lengths
  pub record AsMeant (nodes pile : ℕ) (u : Words) (given : List ledger.Answer) (end other : Ending) (cs : List Call) (s : Standing) : Type 0 where
    pub answers_are : given ≡ answers_of E nodes pile cs s
    pub end_is : end ≡ other
    pub stands_on : StandsFor E u (standing_after E nodes pile cs s)

  as_meant : {bytes : List ℕ} {at : ℕ} {w u : Words} {given : List ledger.Answer} {end other : Ending} {cs : List Call} (s : Standing)
      → StandsFor E w s → Replays E bytes at w given end u → Holds bytes at cs other
      → AsMeant (length w.nodes) (length w.pile) u given end other cs s
  unfolding answers_of standing_after
  as_meant s stands (ends step) (no_more e) =
      record { answers_are = refl; end_is = refl; stands_on = subst (λ (x : Words). StandsFor E x s) (sym (ended_means E step).1) stands }
  as_meant s stands (ends step) (breaks e) = let found = (ended_means E step).0 in clash (cc)
  as_meant s stands (ends step) (one_more e more) = let found = (ended_means E step).0 in clash (cc)
  as_meant s stands (breaks_off step) (no_more e) = let found = (broken_means E step).0 in clash (cc)
  as_meant s stands (breaks_off {why = why} step) (breaks {why = besides} e) =
      let means = broken_means E step in
      let found = means.0 in
      let one : why ≡ besides = cc in
      record { answers_are = refl; end_is = ap broken one; stands_on = subst (λ (x : Words). StandsFor E x s) (sym means.1) stands }
  as_meant s stands (breaks_off step) (one_more e more) = let found = (broken_means E step).0 in clash (cc)
  as_meant s stands (goes_on step rest) (no_more e) = let found = (answered_means E step).1 in clash (cc)
  as_meant s stands (goes_on step rest) (breaks e) = let found = (answered_means E step).1 in clash (cc)
  as_meant {bytes} s stands (goes_on {next = next} {w = w} {v = v} {u = u} {a = a} {given = given} {end = end} step rest)
      (one_more {next = place} {c = c} {cs = cs} {end = other} e more) =
      let means = answered_means E step in
      let found = means.1 in
      let same = same_read means.0 c next place (sym found ∙ e) in
      let calls : means.0 ≡ c = same.0 in
      let places : next ≡ place = same.1 in
      let made : Makes E c w v (says a) = subst (λ (x : Call). Makes E x w v (says a)) calls means.2 in
      let meets = call_meets E c s stands made in
      let nodes : ℕ = length w.nodes in
      let pile : ℕ = length w.pile in
      let after : Standing = (meant E nodes pile c s).1 in
      let there : Holds bytes next cs other = subst (λ (p : ℕ). Holds bytes p cs other) (sym places) more in
      let later : AsMeant (length v.nodes) (length v.pile) u given end other cs after = as_meant after meets.stands_on rest there in
      let on : AsMeant nodes (length v.pile) u given end other cs after =
      subst (λ (n : ℕ). AsMeant n (length v.pile) u given end other cs after) meets.as_long.nodes_are later in
      let again : AsMeant nodes pile u given end other cs after =
      subst (λ (n : ℕ). AsMeant nodes n u given end other cs after) meets.as_long.pile_are on in
      record {
        answers_are = λ i. meets.answer_is i ∷ again.answers_are i;
        end_is = again.end_is;
        stands_on = again.stands_on;
      }

  -- ---- as a run of the demands
  step_of : (c : Call) {w v : Words} {a : ledger.Answer} → Makes E c w v a → Step E w (in_run c) a v
  step_of (Take size) m = called m.promised
  step_of (HandBack span) m = called m.promised
  step_of (SetUp size count) m = set_up record { nodes_are = refl; pile_are = refl } m.promised
  step_of Reset m = called m.promised

  pub record AsRun (w u : Words) (given : List ledger.Answer) (cs : List Call) : Type 0 where
    pub dones : List Done
    pub run : Run E w dones u
    pub asked_are : asked_of dones ≡ map in_run cs
    pub answers_are : runs.answers_of dones ≡ given

  is_a_run : {bytes : List ℕ} {at : ℕ} {w u : Words} {given : List ledger.Answer} {end other : Ending} {cs : List Call}
      → Replays E bytes at w given end u → Holds bytes at cs other → AsRun w u given cs
  unfolding asked_of runs.answers_of
  is_a_run {w = w} (ends step) (no_more e) =
      record { dones = []; run = subst (Run E w []) (sym (ended_means E step).1) nothing; asked_are = refl; answers_are = refl }
  is_a_run (ends step) (breaks e) = let found = (ended_means E step).0 in clash (cc)
  is_a_run (ends step) (one_more e more) = let found = (ended_means E step).0 in clash (cc)
  is_a_run (breaks_off step) (no_more e) = let found = (broken_means E step).0 in clash (cc)
  is_a_run {w = w} (breaks_off step) (breaks e) =
      record { dones = []; run = subst (Run E w []) (sym (broken_means E step).1) nothing; asked_are = refl; answers_are = refl }
  is_a_run (breaks_off step) (one_more e more) = let found = (broken_means E step).0 in clash (cc)
  is_a_run (goes_on step rest) (no_more e) = let found = (answered_means E step).1 in clash (cc)
  is_a_run (goes_on step rest) (breaks e) = let found = (answered_means E step).1 in clash (cc)
  is_a_run {bytes} (goes_on {next = next} {w = w} {v = v} {u = u} {a = a} {given = given} {end = end} step rest)
      (one_more {next = place} {c = c} {cs = cs} {end = other} e more) =
      let means = answered_means E step in
      let found = means.1 in
      let same = same_read means.0 c next place (sym found ∙ e) in
      let calls : means.0 ≡ c = same.0 in
      let places : next ≡ place = same.1 in
      let made : Makes E c w v (says a) = subst (λ (x : Call). Makes E x w v (says a)) calls means.2 in
      let there : Holds bytes next cs other = subst (λ (p : ℕ). Holds bytes p cs other) (sym places) more in
      let later : AsRun v u given cs = is_a_run rest there in
      record {
        dones = did (in_run c) (says a) ∷ later.dones;
        run = then (step_of c made) later.run;
        asked_are = ap (λ (qs : List Asked). in_run c ∷ qs) later.asked_are;
        answers_are = ap (λ (x : List ledger.Answer). says a ∷ x) later.answers_are;
      }

-- scalars that are zeros
no_store_is : (w : Words) → NoStore w → w ≡ zeros (lent_in w)
no_store_is w none = λ i. record {
  size = none.size_is i;
  count = none.count_is i;
  free_storage = none.total_is i;
  free_offset = none.offset_is i;
  used_bins_top = none.top_is i;
  used_bins = w.used_bins;
  bin_indices = w.bin_indices;
  nodes = w.nodes;
  pile = w.pile;
}

pub replay_claims : (E : Edition) → ReplayClaims E
replay_claims E = record {
  as_meant = λ bytes at w u given end other cs s stands replay holds.
      let means = as_meant E s stands replay holds in
      (means.answers_are, means.end_is, means.stands_on);
  from_none = from_none E;
  no_store_is = no_store_is;
  store_is = λ w size count l. ((λ b. b), (λ b. b));
  may_end = λ bytes at w v s. ends s;
  may_break_off = λ bytes at w v why s. breaks_off s;
  may_go_on = λ bytes at next w v u a given end s rest. goes_on s rest;
  is_a_run = λ bytes at w u given end other cs replay holds.
      let run = is_a_run E replay holds in
      (run.dones, run.run, run.asked_are, run.answers_are);
  one_step = λ w v u found one other p q. one_step E p q;
  one_result = one_result E;
  one_replay = λ bytes at w v u given others end other p q. one_replay E p q;
}
