-- The demands, by citation: along a run the words stand for the ledger, and of the ledger the claims are proved. Assumes nothing.
use mathlib.Core.Path.{◌≡◌, refl, sym, ap, ap₂, subst, ◌∙◌}
use mathlib.Core.Logic.{inl, inr}
use mathlib.Core.List.{List, [], ◌∷◌}
use Prim.Native.Nat.{ℕ, ◌^◌, ◌≤◌, ◌<◌}
use native.Mathlib.Omega.{arith}
use lib.Dec.{ltb}
use lib.ListN.{length}
use borrow.Author.Tests.{le-ltb}
use Rattle.basics.specs.Sum.{one}
use Rattle.basics.proofs.Decided.{below, beyond, below?}
use Rattle.basics.proofs.Clash.{clash}
use Rattle.ledger.specs.Ledger.{Ledger, Answer, done, refused, setup, by_class, Stacks}
use Rattle.ledger.specs.Calls.{Event, event, answer, end, log, Reset}
use Rattle.ledger.specs.Stretch.{Stretch}
use Rattle.ledger.specs.WellFormed.{WellFormed}
use Rattle.ledger.specs.Claims.{Claims}
use Rattle.ledger.proofs.Claims as ledger
use Rattle.ledger.proofs.Records.{all_records}
use Rattle.ledger.proofs.CallsWell.{setup_well, end_well}
use Rattle.ledger.proofs.ByClass.{class_laws}
use Rattle.tables.specs.Words.{Words, Edition}
use Rattle.tables.specs.Room.{OfHead}
use Rattle.tables.specs.Calls.{edition32, answer_words}
use Rattle.tables.specs.Setup.{Lent, setup_words}
use Rattle.tables.specs.Sound.{Sound}
use Rattle.tables.specs.Claims.{OneOf}
use Rattle.tables.specs.Promise.{SetupPromise, Promise}
use Rattle.tables.proofs.Gate.{Gated, bad_count, too_short, open_gate, gated?}
use Rattle.tables.proofs.Claims as tables
use Rattle.tables.proofs.OverRuns.{step_sound}
use Rattle.tables.proofs.Promise.{promise_means}
use Rattle.tables.proofs.Given.{accepted, count_rows}
use Rattle.audit_words.specs.Promise.{AuditPromise}
use Rattle.audit_words.proofs.Claims as auditing
use Rattle.demands.specs.Runs.{Done, did, Auditing, called, audited, set_up, Run, nothing, then, NoSetup, asked_of, answers_of, calls_of, log_of}
use Rattle.demands.specs.Demands.{Begun, Since, SinceMeans, Demands, BaseDemands, ledger_after}
use Rattle.demands.proofs.Twins.{twins, run_lengths}

module _ (E : Edition) where
  -- ---- a run without a setup, from words that stand for a ledger: its log is the ledger's, and its end stands for the ledger's end
  run_sound : {size count : ℕ} → 2 ≤ count → size < 2 ^ 32 → (l : Ledger Stacks) → WellFormed by_class size count l
      → {w u : Words} {ds : List Done}
      → Sound E w l → Run E w ds u → NoSetup ds
      → (log_of ds ≡ log (answer by_class size count) (calls_of ds) l) × Sound E u (end (answer by_class size count) (calls_of ds) l)
  unfolding log_of calls_of log end
  run_sound two small l f S nothing n = (refl, S)
  run_sound {size} {count} two small l f S (then (called {w = w} {v = v} {c = c} {a = a} p) rest) n =
      let this = step_sound E size count c w l f S in
      let answer_is : a ≡ (answer by_class size count c l).0 = ap (λ (x : Answer × Words). x.0) p.exact ∙ this.0 in
      let next : Sound E v (answer by_class size count c l).1 =
      subst (λ (x : Words). Sound E x (answer by_class size count c l).1) (sym (ap (λ (x : Answer × Words). x.1) p.exact)) this.1 in
      let well = (ledger.claims size count small two).shared.call_well c l f in
      let later = run_sound two small (answer by_class size count c l).1 well next rest n in
      (ap₂ {C = List Event} ◌∷◌ (ap (event c) answer_is) later.0, later.1)
  run_sound two small l f S (then (audited e p) rest) n = run_sound two small l f S rest n
  run_sound two small l f S (then (set_up t p) rest) n = absurd n

  -- ---- from a beginning
  module _ {size count : ℕ} {l : Ledger Stacks} {at_first now : Words} {ds : List Done} (s : Since E size count l at_first ds now) where
    -- the words at first have the ledger's size and count
    size_is : at_first.size ≡ size
    size_is = sym s.begun.stands.well.lined.cover ∙ s.begun.in_order.lined.cover

    count_is : at_first.count ≡ count
    count_is = sym (all_records s.begun.stands.well.lined) ∙ all_records s.begun.in_order.lined

    two : 2 ≤ count
    two = omega (arith, s.begun.stands.room.tables.count_low, count_is)

    small : size < 2 ^ 32
    small = omega (arith, s.begun.stands.room.of_head.size_fits, E.fits, size_is)

    all_claims : Claims size count
    all_claims = ledger.claims size count small two

    as_the_ledger : (log_of ds ≡ log (answer by_class size count) (calls_of ds) l) × Sound E now (ledger_after size count l ds)
    as_the_ledger = run_sound two small l s.begun.in_order s.begun.stands s.run s.no_setup

    well : WellFormed by_class size count (ledger_after size count l ds)
    well = end_well by_class class_laws size count two (calls_of ds) l s.begun.in_order

    counted : now.count ≡ count
    counted = sym (all_records as_the_ledger.1.well.lined) ∙ all_records well.lined

    audit_says_yes : {n : ℕ} {after : Words} {a : Answer} {later : List Done} → Run E now (did (Auditing n) a ∷ later) after
        → count ≤ n → a ≡ done
    audit_says_yes (then (audited {scratch = scratch} e p) rest) long =
        ap (λ (x : Answer × List ℕ). x.0)
        (p.exact ∙ (auditing.claims E).sound_yes now (ledger_after size count l ds) scratch as_the_ledger.1 (omega (arith, counted, e, long)))

    -- the ledger is the same after the stretch, so the words on both sides of it stand for one ledger
    as_never : {after-the-stretch one_end other-end : Words} {stretch later instead : List Done}
        → Run E now stretch after-the-stretch → NoSetup stretch → Stretch [] (log_of stretch)
        → Run E after-the-stretch later one_end → Run E now instead other-end → asked_of later ≡ asked_of instead
        → answers_of later ≡ answers_of instead
    as_never {after-the-stretch} {stretch = stretch} run n h after other same =
        let m = ledger_after size count l ds in
        let stretched = run_sound two small m well as_the_ledger.1 run n in
        let restored = all_claims.shared.stretch_restores (calls_of stretch) m well (subst (Stretch []) stretched.0 h) in
        twins E record {
          lengths = run_lengths E run;
          kind = inl (m, subst (Sound E after-the-stretch) restored stretched.1, as_the_ledger.1);
        } after other same

  -- ---- what begins
  setup_begins : {size count : ℕ} {lent : Lent} {v : Words} → SetupPromise E size count lent v done → Begun E size count (setup by_class size count) v
  setup_begins {size} {count} {lent} p = record {
    in_order = setup_well by_class class_laws size count
        (((tables.claims E).setup_done size count lent).0 (sym (ap (λ (x : Answer × Words). x.0) p.exact))).1.count_low;
    stands = p.ledger refl;
  }

  reset_begins : {w v : Words} → OfHead E w → Promise E Reset w v done → Begun E w.size w.count (setup by_class w.size w.count) v
  reset_begins {w} {v} h p = go (gated? E 6 w.count (length w.nodes) (length w.pile))
    where
      answer_is : done ≡ (answer_words E Reset w).0
      answer_is = ap (λ (x : Answer × Words). x.0) p.exact

      go : Gated E 6 w.count (length w.nodes) (length w.pile)
          → Begun E w.size w.count (setup by_class w.size w.count) v
      go (bad_count b e) = clash (cc (answer_is ∙ ap (λ (x : Answer × Words). x.0) ((tables.claims E).call_6 Reset w b)))
      go (too_short b e) = clash (cc (answer_is ∙ ap (λ (x : Answer × Words). x.0) ((tables.claims E).call_2 Reset w b)))
      go (open_gate r e) = record {
        in_order = setup_well by_class class_laws w.size w.count r.count_low;
        stands = subst (λ (u : Words). Sound E u (setup by_class w.size w.count))
            (sym (ap (λ (x : Answer × Words). x.1) p.exact)) ((tables.claims E).reset_sound w h.size_fits r).1;
      }

  audit_numbered : {w : Words} {scratch left : List ℕ} {k : ℕ} → AuditPromise E w scratch left (refused k) → OneOf (2 ∷ 6 ∷ []) k
  audit_numbered p = elim p.no_other [
    | inl e ↦ clash (cc)
    | inr (inl e) ↦ inl (cc)
    | inr (inr e) ↦ inr (inl (cc))
  ]

-- a count is told by the numbers below it
one_count : (m n : ℕ) → ((r : ℕ) → one (ltb r m) ≡ one (ltb r n)) → m ≡ n
one_count m n h = elim (below? m n) [
  | below l e ↦ absurd (omega (arith, h m, ap one (le-ltb m m (omega arith)), ap one e))
  | beyond l e ↦ elim (below? n m) [
    | below k f ↦ absurd (omega (arith, h n, ap one (le-ltb n n (omega arith)), ap one f))
    | beyond k f ↦ omega arith
  ]
]

pub since_means : (E : Edition) → SinceMeans E
since_means E = record {
  begins = λ w l S. record { in_order = S.well; stands = S };
  goes_on = λ size count l w now ds b run n. record { begun = b; run = run; no_setup = n };
  begun_says = λ size count l w b. (
    sym b.stands.well.lined.cover ∙ b.in_order.lined.cover,
    one_count w.count count (λ r. sym (b.stands.well.lined.once r) ∙ b.in_order.lined.once r),
    b.stands,
  );
  since_says = λ size count l w now ds s. (s.begun, s.run, s.no_setup);
}

pub demands : (E : Edition) → Demands E
demands E = record {
  call_numbered = λ {c} {w} {v} {k} p. (tables.claims E).numbers c w k (sym (ap (λ (x : Answer × Words). x.0) p.exact));
  setup_numbered = λ {size} {count} {lent} {v} {k} p.
      (tables.claims E).setup_numbers size count lent k (sym (ap (λ (x : Answer × Words). x.0) p.exact));
  audit_numbered = audit_numbered E;
  refusal_keeps = λ k p q. p.kept k q;
  refused_setup_keeps = λ k s q.
      let kept = s.kept k q in
      (ap (λ (x : Words). x.bin_indices) kept, ap (λ (x : Words). x.used_bins) kept, ap (λ (x : Words). x.nodes) kept, ap (λ (x : Words). x.pile) kept);
  refused_setup_zeros = λ k s q.
      let kept = s.kept k q in (
        ap (λ (x : Words). x.size) kept,
        ap (λ (x : Words). x.count) kept,
        ap (λ (x : Words). x.free_storage) kept,
        ap (λ (x : Words). x.free_offset) kept,
        ap (λ (x : Words). x.used_bins_top) kept,
      );
  then_6 = λ {v = v} {c = c} k s q p.
      let none : v.count ≡ 0 = ap (λ (x : Words). x.count) (s.kept k q) in
      ap (λ (x : Answer × Words). x.0) (p.exact ∙ (tables.claims E).call_6 c v (inl (omega (arith, none))));
  inside = λ {asked} {o} {r} p. p.inside asked o r refl refl;
  setup_begins = setup_begins E;
  reset_begins = reset_begins E;
  as_the_ledger = λ s. as_the_ledger E s;
  well_formed = λ s. (all_claims E s, well E s);
  reached = λ size count ds. (calls_of ds, refl);
  audit_says_yes = λ s run long. audit_says_yes E s run long;
  as_never = λ s run n h after other same. as_never E s run n h after other same;
}

pub base_demands : BaseDemands
base_demands = record {
  all_of_them = demands edition32;
  setup_numbered = λ {size} {count} {lent} {v} {k} p.
      count_rows.setup_32 size count lent k p.size_fits (sym (ap (λ (x : Answer × Words). x.0) p.exact));
  covers = λ size count lent fits low high long.
      let v = (setup_words edition32 size count lent).1 in
      let p : SetupPromise edition32 size count lent v done
      = subst (SetupPromise edition32 size count lent v) (accepted size count lent fits low high long)
      ((promise_means edition32).every_setup size count lent fits) in
      (v, p, (demands edition32).setup_begins p);
  no_further = λ size count l w b.
      let e = ((since_means edition32).begun_says size count l w b).1 in
      let room = b.stands.room.tables in
      (omega (arith, e, room.count_low), omega (arith, e, room.count_high));
}
