-- A run of packet calls has everything that can be asked, and no answer but the promised one. Assumes nothing.
use mathlib.Core.Path.{◌≡◌, refl, sym, ap, subst}
use mathlib.Core.Logic.{◌≢◌}
use mathlib.Core.Bool.{Bool, true, false, ◌||◌, cond}
use mathlib.Core.List.{List, [], ◌∷◌, ◌++◌}
use Prim.Native.Nat.{ℕ, zero, suc, ◌^◌, ◌<◌}
use native.Mathlib.Omega.{arith}
use lib.ListN.{length, replicate, length-replicate}
use Rattle.ledger.specs.Ledger.{Answer, granted, done, length_is, reported, classes, refused}
use Rattle.ledger.specs.Calls as ledger
use Rattle.tables.specs.Words.{Words, Edition}
use Rattle.tables.specs.Room.{OfHead}
use Rattle.tables.specs.Setup.{setup_words}
use Rattle.tables.specs.Calls.{answer_words}
use Rattle.tables.proofs.Gate.{SetupCase, count_bad, too_large, table_short, accepted, setup_case}
use Rattle.tables.proofs.Claims as tables
use Rattle.audit_words.specs.Audit.{audit_words}
use Rattle.audit_words.proofs.Promise.{audit_promise}
use Rattle.demands.specs.Runs as below
use Rattle.demands.specs.Runs.{Done, Run, NoSetup}
use Rattle.packets.specs.declared.Store.{Store}
use Rattle.packets.specs.declared.Store.TheVariants.{OnChip, External}
use Rattle.packets.specs.Stores.{Kept, Two, two, at, put, other}
use Rattle.packets.specs.OneStore.{lent_in, no_store_yet, set_up_in}
use Rattle.packets.specs.Calls.{PacketCall, Take, HandBack, Fill, Read, LengthOf, ReportOf, Answered, plain}
use Rattle.packets.specs.Calls.{too_short, shorter, either_shorter, nine, goes_on, on, gate_in, neither, refused_by}
use Rattle.packets.specs.Calls.{packet_words, set_up_words, set_up_both_words, audit_in}
use Rattle.packets.specs.Promise.{tried_on, if_named, once, calls_on, made_on, PacketPromise, PacketAudit}
use Rattle.packets.specs.Runs.{Asking, Calling, SettingUp, SettingUpBoth, Auditing, Happened, did, SameLent, PacketStep, called, set_up, set_up_both}
use Rattle.packets.specs.Runs.{audited, PacketRun, nothing, then, made_along, asked_of, SizesFit, RunsMean}
use Rattle.packets.proofs.Promised as promised
use Rattle.packets.proofs.Setups.{setup_promised, both_promised}

-- ---- no packet call makes a setup below
tried_none : (a : Answer) (ds : List Done) → NoSetup ds → NoSetup (tried_on a ds)
tried_none (granted o r) ds h = tt
tried_none done ds h = tt
tried_none (length_is n) ds h = tt
tried_none (reported n m) ds h = tt
tried_none (classes rows) ds h = tt
tried_none (refused k) ds h = go (goes_on k)
  where
    go : (b : Bool) → NoSetup (cond b ds [])
    go true = h
    go false = tt

named_none : (named s : Store) (ds : List Done) → NoSetup ds → NoSetup (if_named named s ds)
named_none OnChip OnChip ds h = h
named_none OnChip External ds h = tt
named_none External OnChip ds h = tt
named_none External External ds h = h

module _ (E : Edition) where
  calls_none : (s : Store) (c : PacketCall) (t : Two) → NoSetup (calls_on E s c t)
  calls_none OnChip (Take asked) t = tt
  calls_none External (Take asked) t =
      tried_none (answer_words E (ledger.Take asked) t.on_chip.words).0 (once E (ledger.Take asked) External t) tt
  calls_none s (HandBack named span) t = named_none named s (once E (ledger.HandBack span) s t) tt
  calls_none s (Fill named span new) t = named_none named s (once E (ledger.Ask (ledger.SizeOf span)) s t) tt
  calls_none s (Read named span) t = named_none named s (once E (ledger.Ask (ledger.SizeOf span)) s t) tt
  calls_none s (LengthOf named span) t = named_none named s (once E (ledger.Ask (ledger.SizeOf span)) s t) tt
  calls_none s (ReportOf named) t = named_none named s (once E (ledger.Ask ledger.Report) s t) tt

  pub made_none : (s : Store) (c : PacketCall) (t : Two) → NoSetup (made_on E s c t)
  unfolding made_on
  made_none s c t = go (too_short t)
    where
      go : (b : Bool) → NoSetup (cond b [] (calls_on E s c t))
      go true = tt
      go false = calls_none s c t

  -- ---- so the words that it leaves are again a head's
  run_head : {w v : Words} {ds : List Done} → Run E w ds v → NoSetup ds → OfHead E w → OfHead E v
  run_head below.nothing n h = h
  run_head (below.then (below.called {w = w} {c = c} p) rest) n h =
      let kept = (tables.claims E).not_written c w in
      run_head rest n
      (subst (λ (x : Words). OfHead E x) (sym (ap (λ (x : Answer × Words). x.1) p.exact)) record {
        size_fits = omega (arith, kept.size_is, h.size_fits);
        heads_room = kept.heads_length h.heads_room;
        leaves_room = kept.leaves_length h.leaves_room;
      })
  run_head (below.then (below.audited e p) rest) n h = run_head rest n h
  run_head (below.then (below.set_up e p) rest) n h = absurd n

  call_heads : (c : PacketCall) (t : Two) → ((s : Store) → OfHead E (at s t).words) → (s : Store) → OfHead E (at s (packet_words E c t).1).words
  call_heads c t h s = run_head ((promised.every_call E c t).made s) (made_none s c t) (h s)

  -- ---- and so are those that a setup leaves
  none_head : (k : Kept) → OfHead E k.words → OfHead E (no_store_yet k).words
  none_head k h = record { size_fits = omega arith; heads_room = h.heads_room; leaves_room = h.leaves_room }

  made_head : (size count : ℕ) (k : Kept) → OfHead E k.words → OfHead E (set_up_in E size count k).1.words
  unfolding set_up_in
  made_head size count k h = go (setup_case E size count (length k.words.nodes) (length k.words.pile))
    where
      shut : (n : ℕ) → (setup_words E size count (lent_in k.words)).0 ≡ refused n → OfHead E (setup_words E size count (lent_in k.words)).1
      shut n e = subst (λ (x : Words). OfHead E x) (sym ((tables.claims E).setup_refused size count (lent_in k.words) n e)) (none_head k h)

      go : SetupCase E size count (length k.words.nodes) (length k.words.pile) → OfHead E (setup_words E size count (lent_in k.words)).1
      go (count_bad b e) = shut 1 (((tables.claims E).setup_1 size count (lent_in k.words)).1 b)
      go (too_large b e) = shut 10 (((tables.claims E).setup_10 size count (lent_in k.words)).1 b)
      go (table_short f b e) = shut 2 (((tables.claims E).setup_2 size count (lent_in k.words)).1 (f, b))
      go (accepted f b e) =
          ((tables.claims E).setup_sound size count (lent_in k.words) (((tables.claims E).setup_done size count (lent_in k.words)).1 (f, b))
          ).room.of_head

  put_heads : (named : Store) (k : Kept) (t : Two) → OfHead E k.words → ((s : Store) → OfHead E (at s t).words)
      → (s : Store) → OfHead E (at s (put named k t)).words
  put_heads OnChip k t g h OnChip = g
  put_heads OnChip k t g h External = h External
  put_heads External k t g h OnChip = h OnChip
  put_heads External k t g h External = g

  setup_heads : (named : Store) (size count : ℕ) (t : Two) → ((s : Store) → OfHead E (at s t).words)
      → (s : Store) → OfHead E (at s (set_up_words E named size count t).1).words
  unfolding set_up_words
  setup_heads named size count t h s = go (shorter size (at named t) || shorter (at (other named) t).words.size (at (other named) t))
    where
      go : (b : Bool)
          → OfHead E (at s (nine b (put named (no_store_yet (at named t)) t) (on named t (set_up_in E size count (at named t)))).1).words
      go true = put_heads named (no_store_yet (at named t)) t (none_head (at named t) (h named)) h s
      go false = put_heads named (set_up_in E size count (at named t)).1 t (made_head size count (at named t) (h named)) h s

  neither_heads : (t : Two) → ((s : Store) → OfHead E (at s t).words) → (s : Store) → OfHead E (at s (neither t)).words
  neither_heads t h OnChip = none_head t.on_chip (h OnChip)
  neither_heads t h External = none_head t.external (h External)

  both_heads : (size count other-size other-count : ℕ) (t : Two) → ((s : Store) → OfHead E (at s t).words)
      → (s : Store) → OfHead E (at s (set_up_both_words E size count other-size other-count t).1).words
  unfolding set_up_both_words
  both_heads size count other-size other-count t h s =
      go (either_shorter size other-size t) (gate_in E size count t.on_chip) (gate_in E other-size other-count t.external)
    where
      made : Two
      made = two (set_up_in E size count t.on_chip).1 (set_up_in E other-size other-count t.external).1

      made_heads : (named : Store) → OfHead E (at named made).words
      made_heads OnChip = made_head size count t.on_chip (h OnChip)
      made_heads External = made_head other-size other-count t.external (h External)

      go : (b : Bool) (g n : ℕ)
          → OfHead E (at s (nine b (neither t) (refused_by g (neither t) (refused_by n (neither t) (plain done, made)))).1).words
      go true g n = neither_heads t h s
      go false zero zero = made_heads s
      go false zero (suc n) = neither_heads t h s
      go false (suc g) n = neither_heads t h s

  -- ---- every step there can be
  every_call : (c : PacketCall) (t : Two) → PacketStep E t (Calling c) (packet_words E c t).0 (packet_words E c t).1
  every_call c t = called (promised.every_call E c t)

  setup_step : (s : Store) (size count : ℕ) (t lent : Two) → size < 2 ^ 32 → (at s lent).words.nodes ≡ (at s t).words.nodes
      → (at s lent).words.pile ≡ (at s t).words.pile → (at s lent).bytes ≡ (at s t).bytes → at (other s) lent ≡ at (other s) t
      → PacketStep E t (SettingUp s size count) (set_up_words E s size count lent).0 (set_up_words E s size count lent).1
  setup_step s size count t lent small n p b beside =
      set_up record { nodes_are = n; pile_are = p; bytes_are = b } beside (setup_promised E s size count lent _ _ small refl)

  setup_both_step : (size count other-size other-count : ℕ) (t lent : Two) → size < 2 ^ 32 → other-size < 2 ^ 32
      → ((s : Store) → (at s lent).words.nodes ≡ (at s t).words.nodes) → ((s : Store) → (at s lent).words.pile ≡ (at s t).words.pile)
      → ((s : Store) → (at s lent).bytes ≡ (at s t).bytes)
      → PacketStep E t (SettingUpBoth size count other-size other-count)
      (set_up_both_words E size count other-size other-count lent).0 (set_up_both_words E size count other-size other-count lent).1
  setup_both_step size count other-size other-count t lent small small-too n p b =
      set_up_both record { nodes_are = n OnChip; pile_are = p OnChip; bytes_are = b OnChip }
      record { nodes_are = n External; pile_are = p External; bytes_are = b External }
      (both_promised E size count other-size other-count lent _ _ small small-too refl)

  audit_there : (s : Store) (t : Two) (scratch : List ℕ) → OfHead E (at s t).words
      → PacketAudit E s t scratch (audit_in E s t scratch).1 (plain (audit_in E s t scratch).0)
  audit_there s t scratch h = record {
    exact = refl;
    made = λ long.
        let model : audit_in E s t scratch ≡ audit_words E (at s t).words scratch =
        unfold audit_in in ap (λ (b : Bool). cond b (refused 9, scratch) (audit_words E (at s t).words scratch)) long in
        ((audit_in E s t scratch).0, refl, audit_promise E (at s t).words scratch h model);
  }

  audit_step : (s : Store) (t : Two) (scratch : List ℕ) → OfHead E (at s t).words
      → PacketStep E t (Auditing s (length scratch)) (plain (audit_in E s t scratch).0) t
  audit_step s t scratch h = audited refl (audit_there s t scratch h)

  every_run : (t : Two) → ((s : Store) → OfHead E (at s t).words) → (qs : List Asking) → SizesFit qs
      → (hs : List Happened) × (u : Two) × PacketRun E t hs u × (asked_of hs ≡ qs)
  unfolding asked_of
  every_run t h [] f = ([], t, nothing, refl)
  every_run t h (Calling c ∷ qs) f =
      let rest = every_run (packet_words E c t).1 (call_heads c t h) qs f in (
        did (Calling c) (packet_words E c t).0 ∷ rest.0,
        rest.1,
        then (every_call c t) rest.2,
        ap (λ (xs : List Asking). Calling c ∷ xs) rest.3,
      )
  every_run t h (SettingUp s size count ∷ qs) f =
      let rest = every_run (set_up_words E s size count t).1 (setup_heads s size count t h) qs f.1 in (
        did (SettingUp s size count) (set_up_words E s size count t).0 ∷ rest.0,
        rest.1,
        then (setup_step s size count t t f.0 refl refl refl refl) rest.2,
        ap (λ (xs : List Asking). SettingUp s size count ∷ xs) rest.3,
      )
  every_run t h (SettingUpBoth size count other-size other-count ∷ qs) f =
      let rest = every_run (set_up_both_words E size count other-size other-count t).1 (both_heads size count other-size other-count t h) qs f.2 in (
        did (SettingUpBoth size count other-size other-count) (set_up_both_words E size count other-size other-count t).0 ∷ rest.0,
        rest.1,
        then (setup_both_step size count other-size other-count t t f.0 f.1 (λ s. refl) (λ s. refl) (λ s. refl)) rest.2,
        ap (λ (xs : List Asking). SettingUpBoth size count other-size other-count ∷ xs) rest.3,
      )
  every_run t h (Auditing s n ∷ qs) f =
      let rest = every_run t h qs f in
      let scratch : List ℕ = replicate n 0 in (
        did (Auditing s n) (plain (audit_in E s t scratch).0) ∷ rest.0,
        rest.1,
        then (audited (length-replicate {A = ℕ} n 0) (audit_there s t scratch (h s))) rest.2,
        ap (λ (xs : List Asking). Auditing s n ∷ xs) rest.3,
      )

  -- ---- a step's answer is the model's
  goes_there : {x y u : Two} {hs : List Happened} → x ≡ y → PacketRun E x hs u → PacketRun E y hs u
  goes_there {u = u} {hs} e rest = subst (λ (z : Two). PacketRun E z hs u) e rest

  call_answered : {t u : Two} {c : PacketCall} {a : Answered} {hs : List Happened} → PacketRun E t (did (Calling c) a ∷ hs) u
      → (a ≡ (packet_words E c t).0) × PacketRun E (packet_words E c t).1 hs u
  call_answered (then (called p) rest) =
      (ap (λ (x : Answered × Two). x.0) p.exact, goes_there (ap (λ (x : Answered × Two). x.1) p.exact) rest)

  setup_answered : {t u : Two} {s : Store} {size count : ℕ} {a : Answered} {hs : List Happened}
      → PacketRun E t (did (SettingUp s size count) a ∷ hs) u
      → (lent : Two) × SameLent (at s t) (at s lent) × (at (other s) lent ≡ at (other s) t) × (a ≡ (set_up_words E s size count lent).0)
      × PacketRun E (set_up_words E s size count lent).1 hs u
  setup_answered (then (set_up {lent = lent} l beside p) rest) =
      (lent, l, beside, ap (λ (x : Answered × Two). x.0) p.exact, goes_there (ap (λ (x : Answered × Two). x.1) p.exact) rest)

  setup_both_answered : {t u : Two} {size count other-size other-count : ℕ} {a : Answered} {hs : List Happened}
      → PacketRun E t (did (SettingUpBoth size count other-size other-count) a ∷ hs) u
      → (lent : Two) × SameLent t.on_chip lent.on_chip × SameLent t.external lent.external
      × (a ≡ (set_up_both_words E size count other-size other-count lent).0)
      × PacketRun E (set_up_both_words E size count other-size other-count lent).1 hs u
  setup_both_answered (then (set_up_both {lent = lent} l m p) rest) =
      (lent, l, m, ap (λ (x : Answered × Two). x.0) p.exact, goes_there (ap (λ (x : Answered × Two). x.1) p.exact) rest)

  audit_answered : {t u : Two} {s : Store} {n : ℕ} {a : Answered} {hs : List Happened} → PacketRun E t (did (Auditing s n) a ∷ hs) u
      → (scratch : List ℕ) × (length scratch ≡ n) × (a ≡ plain (audit_in E s t scratch).0) × PacketRun E t hs u
  audit_answered (then (audited {scratch = scratch} e p) rest) = (scratch, e, ap (λ (x : Answered × List ℕ). x.0) p.exact, rest)

  sizes_fit : {t u : Two} {hs : List Happened} → PacketRun E t hs u → SizesFit (asked_of hs)
  unfolding asked_of
  sizes_fit nothing = tt
  sizes_fit (then (called p) rest) = sizes_fit rest
  sizes_fit (then (set_up l beside p) rest) = (p.size_fits, sizes_fit rest)
  sizes_fit (then (set_up_both l m p) rest) = (p.size_fits, p.other_size_fits, sizes_fit rest)
  sizes_fit (then (audited e p) rest) = sizes_fit rest

  ends_there : {t u : Two} → PacketRun E t [] u → u ≡ t
  ends_there nothing = refl

every_question : (before after : List Happened) (q : Asking) (a : Answered)
    → asked_of (before ++ (did q a ∷ after)) ≡ asked_of before ++ (q ∷ asked_of after)
unfolding asked_of
every_question [] after q a = refl
every_question (did p b ∷ before) after q a = ap (λ (xs : List Asking). p ∷ xs) (every_question before after q a)

along_other : {E : Edition} {t u v : Two} {q : Asking} {a : Answered} {hs : List Happened} (s : Store) (step : PacketStep E t q a u)
    (rest : PacketRun E u hs v) → ((c : PacketCall) → q ≢ Calling c) → made_along E s (then step rest) ≡ made_along E s rest
unfolding made_along
along_other s (called {c = c} p) rest h = absurd (h c refl)
along_other s (set_up same beside p) rest h = refl
along_other s (set_up_both same same-too p) rest h = refl
along_other s (audited e p) rest h = refl

along_call : {E : Edition} {t u v : Two} {c : PacketCall} {a : Answered} {hs : List Happened} (s : Store) (p : PacketPromise E c t u a)
    (rest : PacketRun E u hs v) → made_along E s (then (called p) rest) ≡ made_on E s c t ++ made_along E s rest
unfolding made_along
along_call s p rest = refl

along_none : (E : Edition) (s : Store) (t : Two) → made_along E s (nothing {t = t}) ≡ []
unfolding made_along
along_none E s t = refl

pub runs_mean : (E : Edition) → RunsMean E
runs_mean E = record {
  every_run = every_run E;
  every_call = every_call E;
  setup_step = setup_step E;
  setup_both_step = setup_both_step E;
  audit_step = audit_step E;
  call_answered = call_answered E;
  setup_answered = setup_answered E;
  setup_both_answered = setup_both_answered E;
  audit_answered = audit_answered E;
  whole_stores = λ l. (l.nodes_are, l.pile_are, l.bytes_are);
  sizes_fit = sizes_fit E;
  ends_there = ends_there E;
  every_question = every_question;
  along_none = along_none E;
  along_call = along_call;
  along_other = along_other;
}
