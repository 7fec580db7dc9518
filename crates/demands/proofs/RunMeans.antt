-- A run has everything that can be asked, and no answer but the promised one. Assumes nothing.
use mathlib.Core.Path.{◌≡◌, refl, sym, ap, subst}
use mathlib.Core.List.{List, [], ◌∷◌, ◌++◌, map}
use Prim.Native.Nat.{ℕ, ◌^◌, ◌<◌}
use native.Mathlib.Omega.{arith}
use lib.ListN.{length, replicate, length-replicate}
use Rattle.ledger.specs.Ledger.{Answer, refused}
use Rattle.ledger.specs.Calls.{Call, Event, event, call_of}
use Rattle.tables.specs.Words.{Words, Edition}
use Rattle.tables.specs.Setup.{Lent, lent_of, setup_words}
use Rattle.tables.specs.Calls.{answer_words}
use Rattle.tables.proofs.Gate.{SetupCase, count_bad, too_large, table_short, accepted, setup_case}
use Rattle.tables.proofs.Claims as tables
use Rattle.tables.proofs.Promise.{promise, setup_promise}
use Rattle.audit_words.specs.Audit.{audit_words}
use Rattle.tables.specs.Room.{OfHead}
use Rattle.audit_words.proofs.Promise.{audit_promise}
use Rattle.demands.specs.Runs.{Asked, Calling, Auditing, SettingUp, Done, did, LentFrom, Step, called, audited, set_up, Run, nothing, then}
use Rattle.demands.specs.Runs.{NoSetup, asked_of, answers_of, calls_of, log_of, SizesFit, RunMeans}

-- the words w as a setup in place is lent them
abbrev lent_by : Words → Lent
lent_by w = lent_of w.bin_indices w.used_bins w.nodes w.pile

module _ (E : Edition) where
  -- ---- the words that a step leaves are again a head's
  call_head : (c : Call) (w : Words) → OfHead E w → OfHead E (answer_words E c w).1
  call_head c w h =
      let kept = (tables.claims E).not_written c w in
      record {
        size_fits = omega (arith, kept.size_is, h.size_fits);
        heads_room = kept.heads_length h.heads_room;
        leaves_room = kept.leaves_length h.leaves_room;
      }

  setup_head : (size count : ℕ) (w : Words) → OfHead E w → OfHead E (setup_words E size count (lent_by w)).1
  setup_head size count w h = go (setup_case E size count (length w.nodes) (length w.pile))
    where
      shut : (k : ℕ) → (setup_words E size count (lent_by w)).0 ≡ refused k → OfHead E (setup_words E size count (lent_by w)).1
      shut k e =
          subst (OfHead E) (sym ((tables.claims E).setup_refused size count (lent_by w) k e))
          record { size_fits = omega arith; heads_room = h.heads_room; leaves_room = h.leaves_room }

      go : SetupCase E size count (length w.nodes) (length w.pile) → OfHead E (setup_words E size count (lent_by w)).1
      go (count_bad b e) = shut 1 (((tables.claims E).setup_1 size count (lent_by w)).1 b)
      go (too_large b e) = shut 10 (((tables.claims E).setup_10 size count (lent_by w)).1 b)
      go (table_short f b e) = shut 2 (((tables.claims E).setup_2 size count (lent_by w)).1 (f, b))
      go (accepted f b e) =
          let S = (tables.claims E).setup_sound size count (lent_by w) (((tables.claims E).setup_done size count (lent_by w)).1 (f, b)) in
          S.room.of_head

  -- ---- every step there can be
  call_step : (c : Call) (w : Words) → Step E w (Calling c) (answer_words E c w).0 (answer_words E c w).1
  call_step c w = called (promise E c w refl)

  audit_step : (w : Words) (scratch : List ℕ) → OfHead E w → Step E w (Auditing (length scratch)) (audit_words E w scratch).0 w
  audit_step w scratch h = audited refl (audit_promise E w scratch h refl)

  setup_step : (size count : ℕ) (w : Words) (lent : Lent) → size < 2 ^ 32 → lent.nodes ≡ w.nodes → lent.pile ≡ w.pile
      → Step E w (SettingUp size count) (setup_words E size count lent).0 (setup_words E size count lent).1
  setup_step size count w lent small n p = set_up record { nodes_are = n; pile_are = p } (setup_promise E size count lent small refl)

  every_run : (w : Words) → OfHead E w → (qs : List Asked) → SizesFit qs
      → (ds : List Done) × (u : Words) × Run E w ds u × (asked_of ds ≡ qs)
  unfolding asked_of
  every_run w h [] f = ([], w, nothing, refl)
  every_run w h (Calling c ∷ qs) f =
      let rest = every_run (answer_words E c w).1 (call_head c w h) qs f in (
        did (Calling c) (answer_words E c w).0 ∷ rest.0,
        rest.1,
        then (call_step c w) rest.2,
        ap (λ (xs : List Asked). Calling c ∷ xs) rest.3,
      )
  every_run w h (Auditing n ∷ qs) f =
      let rest = every_run w h qs f in
      let scratch : List ℕ = replicate n 0 in (
        did (Auditing n) (audit_words E w scratch).0 ∷ rest.0,
        rest.1,
        then (audited (length-replicate {A = ℕ} n 0) (audit_promise E w scratch h refl)) rest.2,
        ap (λ (xs : List Asked). Auditing n ∷ xs) rest.3,
      )
  every_run w h (SettingUp size count ∷ qs) f =
      let rest = every_run (setup_words E size count (lent_by w)).1 (setup_head size count w h) qs f.1 in (
        did (SettingUp size count) (setup_words E size count (lent_by w)).0 ∷ rest.0,
        rest.1,
        then (setup_step size count w (lent_by w) f.0 refl refl) rest.2,
        ap (λ (xs : List Asked). SettingUp size count ∷ xs) rest.3,
      )

  -- ---- a step's answer is the model's
  call_answered : {w u : Words} {c : Call} {a : Answer} {ds : List Done} → Run E w (did (Calling c) a ∷ ds) u
      → (a ≡ (answer_words E c w).0) × Run E (answer_words E c w).1 ds u
  call_answered {u = u} {ds = ds} (then (called p) rest) = (
    ap (λ (x : Answer × Words). x.0) p.exact,
    subst (λ (x : Words). Run E x ds u) (ap (λ (x : Answer × Words). x.1) p.exact) rest,
  )

  audit_answered : {w u : Words} {n : ℕ} {a : Answer} {ds : List Done} → Run E w (did (Auditing n) a ∷ ds) u
      → (scratch : List ℕ) × (length scratch ≡ n) × (a ≡ (audit_words E w scratch).0) × Run E w ds u
  audit_answered (then (audited {scratch = scratch} e p) rest) = (scratch, e, ap (λ (x : Answer × List ℕ). x.0) p.exact, rest)

  setup_answered : {w u : Words} {size count : ℕ} {a : Answer} {ds : List Done} → Run E w (did (SettingUp size count) a ∷ ds) u
      → (lent : Lent) × LentFrom w lent × (a ≡ (setup_words E size count lent).0) × Run E (setup_words E size count lent).1 ds u
  setup_answered {u = u} {ds = ds} (then (set_up {lent = lent} t p) rest) = (
    lent,
    t,
    ap (λ (x : Answer × Words). x.0) p.exact,
    subst (λ (x : Words). Run E x ds u) (ap (λ (x : Answer × Words). x.1) p.exact) rest,
  )

  sizes_fit : {w u : Words} {ds : List Done} → Run E w ds u → SizesFit (asked_of ds)
  unfolding asked_of
  sizes_fit nothing = tt
  sizes_fit (then (called p) rest) = sizes_fit rest
  sizes_fit (then (audited e p) rest) = sizes_fit rest
  sizes_fit (then (set_up t p) rest) = (p.size_fits, sizes_fit rest)

  ends_there : {w u : Words} → Run E w [] u → u ≡ w
  ends_there nothing = refl

-- ---- NoSetup
no_setup : (before after : List Done) (size count : ℕ) (a : Answer) → NoSetup (before ++ (did (SettingUp size count) a ∷ after)) → ⊥
no_setup [] after size count a n = n
no_setup (did (Calling c) b ∷ before) after size count a n = no_setup before after size count a n
no_setup (did (Auditing k) b ∷ before) after size count a n = no_setup before after size count a n
no_setup (did (SettingUp s k) b ∷ before) after size count a n = n

only_setup : (ds : List Done)
    → ((before after : List Done) (size count : ℕ) (a : Answer) → ds ≡ before ++ (did (SettingUp size count) a ∷ after) → ⊥) → NoSetup ds
only_setup [] h = tt
only_setup (did (Calling c) b ∷ ds) h =
    only_setup ds (λ before after size count a e. h (did (Calling c) b ∷ before) after size count a (ap (λ (xs : List Done). did (Calling c) b ∷ xs) e))
only_setup (did (Auditing k) b ∷ ds) h =
    only_setup ds (λ before after size count a e. h (did (Auditing k) b ∷ before) after size count a (ap (λ (xs : List Done). did (Auditing k) b ∷ xs) e))
only_setup (did (SettingUp s k) b ∷ ds) h = h [] ds s k b refl

-- ---- what is told of a run leaves out nothing
every_answer : (before after : List Done) (q : Asked) (a : Answer)
    → answers_of (before ++ (did q a ∷ after)) ≡ answers_of before ++ (a ∷ answers_of after)
unfolding answers_of
every_answer [] after q a = refl
every_answer (did p b ∷ before) after q a = ap (λ (xs : List Answer). b ∷ xs) (every_answer before after q a)

every_call : (before after : List Done) (c : Call) (a : Answer)
    → calls_of (before ++ (did (Calling c) a ∷ after)) ≡ calls_of before ++ (c ∷ calls_of after)
unfolding calls_of
every_call [] after c a = refl
every_call (did (Calling d) b ∷ before) after c a = ap (λ (xs : List Call). d ∷ xs) (every_call before after c a)
every_call (did (Auditing n) b ∷ before) after c a = every_call before after c a
every_call (did (SettingUp s k) b ∷ before) after c a = every_call before after c a

every_event : (before after : List Done) (c : Call) (a : Answer)
    → log_of (before ++ (did (Calling c) a ∷ after)) ≡ log_of before ++ (event c a ∷ log_of after)
unfolding log_of
every_event [] after c a = refl
every_event (did (Calling d) b ∷ before) after c a = ap (λ (xs : List Event). event d b ∷ xs) (every_event before after c a)
every_event (did (Auditing n) b ∷ before) after c a = every_event before after c a
every_event (did (SettingUp s k) b ∷ before) after c a = every_event before after c a

every_question : (before after : List Done) (q : Asked) (a : Answer)
    → asked_of (before ++ (did q a ∷ after)) ≡ asked_of before ++ (q ∷ asked_of after)
unfolding asked_of
every_question [] after q a = refl
every_question (did p b ∷ before) after q a = ap (λ (xs : List Asked). p ∷ xs) (every_question before after q a)

no_other_call : (ds : List Done) → map call_of (log_of ds) ≡ calls_of ds
unfolding log_of calls_of
no_other_call [] = refl
no_other_call (did (Calling c) a ∷ ds) = ap (λ (xs : List Call). c ∷ xs) (no_other_call ds)
no_other_call (did (Auditing n) a ∷ ds) = no_other_call ds
no_other_call (did (SettingUp s k) a ∷ ds) = no_other_call ds

calls_alone : (ds : List Done)
    → ((before after : List Done) (c : Call) (a : Answer) → ds ≡ before ++ (did (Calling c) a ∷ after) → ⊥) → calls_of ds ≡ []
unfolding calls_of
calls_alone [] h = refl
calls_alone (did (Calling c) b ∷ ds) h = absurd (h [] ds c b refl)
calls_alone (did (Auditing n) b ∷ ds) h =
    calls_alone ds (λ before after c a e. h (did (Auditing n) b ∷ before) after c a (ap (λ (xs : List Done). did (Auditing n) b ∷ xs) e))
calls_alone (did (SettingUp s k) b ∷ ds) h =
    calls_alone ds (λ before after c a e. h (did (SettingUp s k) b ∷ before) after c a (ap (λ (xs : List Done). did (SettingUp s k) b ∷ xs) e))

pub run_means : (E : Edition) → RunMeans E
run_means E = record {
  every_run = every_run E;
  call_step = call_step E;
  audit_step = audit_step E;
  setup_step = setup_step E;
  call_answered = call_answered E;
  audit_answered = audit_answered E;
  setup_answered = setup_answered E;
  whole_tables = λ t. (t.nodes_are, t.pile_are);
  sizes_fit = sizes_fit E;
  ends_there = ends_there E;
  no_setup = no_setup;
  only_setup = only_setup;
  every_question = every_question;
  every_answer = every_answer;
  every_call = every_call;
  every_event = every_event;
  no_other_call = no_other_call;
  calls_alone = calls_alone;
}
