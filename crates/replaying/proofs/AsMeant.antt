-- What a call promises is what it means: on words that stand for a standing it answers so, and the words that it leaves stand for the next. Assumes
-- nothing.
use mathlib.Core.Path.{◌≡◌, refl, sym, ap, subst, ◌∙◌}
use mathlib.Core.Logic.{inl}
use mathlib.Core.List.{List, [], ◌∷◌}
use Prim.Native.Nat.{ℕ, zero, suc}
use native.Mathlib.Omega.{arith}
use lib.ListN.{length}
use Rattle.ledger.specs.Ledger.{Ledger, Answer, done, refused, by_class, Stacks}
use Rattle.ledger.specs.Calls as ledger
use Rattle.ledger.specs.Calls.{Event, event}
use Rattle.tables.specs.Words.{Words, Edition}
use Rattle.tables.specs.Gate.{setup_gate, gated}
use Rattle.tables.specs.Setup.{Lent, zeros, fresh, setup_words}
use Rattle.tables.specs.Calls.{answer_words}
use Rattle.tables.specs.Promise.{Promise, SetupPromise}
use Rattle.tables.proofs.Claims as tables
use Rattle.demands.specs.Runs.{Calling, did, called, nothing, then, calls_of, log_of}
use Rattle.demands.specs.Demands.{Begun, Since}
use Rattle.demands.proofs.Demands.{demands}
use Rattle.calls.specs.declared.Call.{Call}
use Rattle.calls.specs.declared.Call.TheVariants.{Take, HandBack, SetUp, Reset}
use Rattle.calling.specs.Makes.{lent_in, Makes}
use Rattle.replaying.specs.Meaning.{Standing, no_store, store, asked, begun, meant}
use Rattle.replaying.specs.Replays.{NoStore, StandsFor}

-- the tables of the words v are as long as those of w
pub record AsLong (v w : Words) : Type 0 where
  pub nodes_are : length v.nodes ≡ length w.nodes
  pub pile_are : length v.pile ≡ length w.pile

-- what one call comes to
pub record Meets (E : Edition) (w v : Words) (a : Answer) (outcome : Answer × Standing) : Type 0 where
  pub answer_is : a ≡ outcome.0
  pub stands_on : StandsFor E v outcome.1
  pub as_long : AsLong v w

module _ (E : Edition) where
  -- ---- a call that is no setup
  call_long : {c : ledger.Call} {w v : Words} {a : Answer} → Promise E c w v a → AsLong v w
  call_long {c} {w} {v} p =
      let kept = (tables.claims E).not_written c w in
      let left : v ≡ (answer_words E c w).1 = ap (λ (x : Answer × Words). x.1) p.exact in
      record {
        nodes_are = ap (λ (x : Words). length x.nodes) left ∙ kept.nodes_length;
        pile_are = ap (λ (x : Words). length x.pile) left ∙ kept.pile_length;
      }

  no_store_kept : {w v : Words} → v ≡ w → NoStore w → NoStore v
  no_store_kept {w} {v} e n = subst NoStore (sym e) n

  -- on no store it is refused as 6
  on_none : {c : ledger.Call} {w v : Words} {a : Answer} → NoStore w → Promise E c w v a → Meets E w v a (asked c no_store)
  unfolding asked
  on_none {c} {w} {v} {a} none p =
      let zero-count = none.count_is in
      let six : answer_words E c w ≡ (refused 6, w) = (tables.claims E).call_6 c w (inl (omega (arith, zero-count))) in
      let outcome : ◌≡◌ {A = Answer × Words} (a, v) (refused 6, w) = p.exact ∙ six in
      record {
        answer_is = ap (λ (x : Answer × Words). x.0) outcome;
        stands_on = no_store_kept (ap (λ (x : Answer × Words). x.1) outcome) none;
        as_long = call_long p;
      }

  -- on a store it is the ledger's
  since_one : {size count : ℕ} {l : Ledger Stacks} {c : ledger.Call} {w v : Words} {a : Answer} → Begun E size count l w → Promise E c w v a
      → Since E size count l w (did (Calling c) a ∷ []) v
  since_one b p = record { begun = b; run = then (called p) nothing; no_setup = tt }

  first_answer : (c d : ledger.Call) (a b : Answer) → ◌≡◌ {A = List Event} (event c a ∷ []) (event d b ∷ []) → a ≡ b
  first_answer c d a b e = cc

  on_store : {size count : ℕ} {l : Ledger Stacks} {c : ledger.Call} {w v : Words} {a : Answer} → Begun E size count l w → Promise E c w v a
      → Meets E w v a (asked c (store size count l))
  unfolding asked log_of calls_of ledger.log ledger.end
  on_store {size} {count} {l} {c} {w} {v} {a} b p =
      let since = since_one b p in
      let told = (demands E).as_the_ledger since in
      record {
        answer_is = first_answer c c a (ledger.answer by_class size count c l).0 told.0;
        stands_on = record { in_order = ((demands E).well_formed since).1; stands = told.1 };
        as_long = call_long p;
      }

  on_any : {c : ledger.Call} {w v : Words} {a : Answer} (s : Standing) → StandsFor E w s → Promise E c w v a → Meets E w v a (asked c s)
  on_any no_store stands p = on_none stands p
  on_any (store size count l) stands p = on_store stands p

  -- ---- a setup
  setup_long : {size count : ℕ} {w v : Words} {a : Answer} → SetupPromise E size count (lent_in w) v a → AsLong v w
  setup_long {size} {count} {w} {v} p =
      let kept = (tables.claims E).setup_lengths size count (lent_in w) in
      let left : v ≡ (setup_words E size count (lent_in w)).1 = ap (λ (x : Answer × Words). x.1) p.exact in
      record {
        nodes_are = ap (λ (x : Words). length x.nodes) left ∙ kept.0;
        pile_are = ap (λ (x : Words). length x.pile) left ∙ kept.1;
      }

  pub from_none : (lent : Lent) → NoStore (zeros lent)
  from_none lent = record { size_is = refl; count_is = refl; total_is = refl; offset_is = refl; top_is = refl }

  setup_by : {size count : ℕ} {w v : Words} {a : Answer} (s : Standing) (k : ℕ) → setup_gate E size count (length w.nodes) (length w.pile) ≡ k
      → SetupPromise E size count (lent_in w) v a → Meets E w v a (begun k size count s)
  unfolding begun setup_words gated
  setup_by {size} {count} {w} {v} {a} s zero opened p =
      let outcome : ◌≡◌ {A = Answer × Words} (a, v) (done, fresh E size count w.nodes w.pile) =
      p.exact
      ∙ ap (λ (g : ℕ). gated g (zeros (lent_in w)) (done, fresh E size count w.nodes w.pile)) opened in
      let is : a ≡ done = ap (λ (x : Answer × Words). x.0) outcome in
      record {
        answer_is = is;
        stands_on = (demands E).setup_begins (subst (SetupPromise E size count (lent_in w) v) is p);
        as_long = setup_long p;
      }
  setup_by {size} {count} {w} {v} {a} s (suc k) shut p =
      let outcome : ◌≡◌ {A = Answer × Words} (a, v) (refused (suc k), zeros (lent_in w)) =
      p.exact
      ∙ ap (λ (g : ℕ). gated g (zeros (lent_in w)) (done, fresh E size count w.nodes w.pile)) shut in
      record {
        answer_is = ap (λ (x : Answer × Words). x.0) outcome;
        stands_on = no_store_kept (ap (λ (x : Answer × Words). x.1) outcome) (from_none (lent_in w));
        as_long = setup_long p;
      }

  -- ---- each of the four
  pub call_meets : (c : Call) {w v : Words} {a : Answer} (s : Standing) → StandsFor E w s → Makes E c w v a
      → Meets E w v a (meant E (length w.nodes) (length w.pile) c s)
  unfolding meant
  call_meets (Take size) s stands m = on_any s stands m.promised
  call_meets (HandBack span) s stands m = on_any s stands m.promised
  call_meets (SetUp size count) s stands m = setup_by s _ refl m.promised
  call_meets Reset s stands m = on_any s stands m.promised
