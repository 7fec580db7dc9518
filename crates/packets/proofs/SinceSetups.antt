-- Each store of a run from bare stores is none, or is as demand 2 has it since an accepted setup; none is too short, and an audit says yes. Assumes nothing.
use mathlib.Core.Path.{◌≡◌, refl, sym, ap, subst, ◌∙◌}
use mathlib.Core.Logic.{◌⊎◌, inl, inr, ◌≢◌}
use mathlib.Core.List.{List, [], ◌∷◌, ◌++◌}
use Prim.Native.Nat.{ℕ, ◌-◌, ◌≤◌}
use native.Mathlib.Omega.{arith}
use lib.ListN.{length}
use Rattle.ledger.specs.Ledger.{done, setup, by_class}
use Rattle.ledger.proofs.Numbers.{length_numbers_from}
use Rattle.ledger.proofs.CallsWell.{setup_well}
use Rattle.ledger.proofs.ByClass.{class_laws}
use Rattle.tables.specs.Words.{Words, Edition}
use Rattle.tables.specs.Sound.{Sound}
use Rattle.demands.specs.Runs as below
use Rattle.demands.specs.Runs.{Done, Run, NoSetup}
use Rattle.demands.specs.Demands.{Since}
use Rattle.packets.specs.declared.Store.{Store}
use Rattle.packets.specs.declared.Store.TheVariants.{OnChip, External}
use Rattle.packets.specs.Stores.{Kept, Two, at, other}
use Rattle.packets.specs.Calls.{Answered, plain}
use Rattle.packets.specs.Promise.{made_on, PacketSetup, PacketAudit}
use Rattle.packets.specs.Runs.{Asking, SettingUp, SettingUpBoth, Happened, did, PacketStep, called, set_up, set_up_both, audited}
use Rattle.packets.specs.Runs.{PacketRun, nothing, then, made_along}
use Rattle.packets.specs.Claims.{Bare, no_store, just_set_up, AllBare, Short}
use Rattle.packets.proofs.Stood.{not_there, there, never_short}
use Rattle.packets.proofs.TwoStores as two_stores
use Rattle.packets.proofs.BareSetups.{set_up_bare, set_up_both_bare}
use Rattle.packets.proofs.RunStands.{run_from_bare, store_stands}
use Rattle.packets.proofs.StretchRuns.{no_setups, joined}
use Rattle.packets.proofs.RunsMean.{made_none}
use Rattle.packets.proofs.AsNever.{none_stays}

data SinceSetup (E : Edition) (k : Kept) : Type 0 where
  none_there : k.words.count ≡ 0 → k.words.size ≡ 0 → SinceSetup E k
  since_then : (size count : ℕ) (at_first : Words) (ds : List Done) → Since E size count (setup by_class size count) at_first ds k.words
      → size ≤ length k.bytes → SinceSetup E k

-- a setup that stands has two records
two_records : {E : Edition} {w : Words} (size count : ℕ) → Sound E w (setup by_class size count) → 2 ≤ count
unfolding setup
two_records size count S = omega (arith, S.well.lined.spare, length_numbers_from (count - 1) 1)

bare_since : {E : Edition} {k : Kept} → Bare E k → SinceSetup E k
bare_since (no_store c s) = none_there c s
bare_since {k = k} (just_set_up size count S long) =
    since_then size count k.words [] record {
      begun = record { in_order = setup_well by_class class_laws size count (two_records size count S); stands = S };
      run = below.nothing;
      no_setup = tt;
    } long

-- what a call does to one store
goes_on : {E : Edition} {k m : Kept} {ds : List Done} → SinceSetup E k → Run E k.words ds m.words → NoSetup ds
    → length m.bytes ≡ length k.bytes → SinceSetup E m
goes_on {E} (none_there c s) run n same =
    let words_same = none_stays E c n run in
    none_there (ap (λ (w : Words). w.count) words_same ∙ c) (ap (λ (w : Words). w.size) words_same ∙ s)
goes_on {E} {ds = ds} (since_then size count at_first es since long) run n same =
    since_then size count at_first (es ++ ds) record {
      begun = since.begun;
      run = joined E since.run run;
      no_setup = no_setups es ds since.no_setup n;
    } (omega (arith, same, long))

-- what a setup of one does
one_set_up : {E : Edition} {t lent u : Two} {size count : ℕ} {a : Answered} (named : Store) → at (other named) lent ≡ at (other named) t
    → PacketSetup E named size count lent u a → ((s : Store) → SinceSetup E (at s t)) → (s : Store) → SinceSetup E (at s u)
one_set_up {E} OnChip beside p h OnChip = bare_since (set_up_bare E p)
one_set_up {E} OnChip beside p h External = subst (SinceSetup E) (sym (p.other_kept ∙ beside)) (h External)
one_set_up {E} External beside p h OnChip = subst (SinceSetup E) (sym (p.other_kept ∙ beside)) (h OnChip)
one_set_up {E} External beside p h External = bare_since (set_up_bare E p)

step_since : {E : Edition} {t u : Two} {q : Asking} {a : Answered} → PacketStep E t q a u → ((s : Store) → SinceSetup E (at s t))
    → (s : Store) → SinceSetup E (at s u)
step_since {E} (called {t = t} {c = c} p) h s = goes_on (h s) (p.made s) (made_none E s c t) (p.lengths s)
step_since (set_up {s = named} lent beside p) h s = one_set_up named beside p h s
step_since {E} (set_up_both lent lent-too p) h s = bare_since ((set_up_both_bare E p).each s)
step_since (audited e p) h s = h s

run_since : {E : Edition} {t u : Two} {hs : List Happened} → PacketRun E t hs u → ((s : Store) → SinceSetup E (at s t))
    → (s : Store) → SinceSetup E (at s u)
run_since nothing h s = h s
run_since (then step rest) h s = run_since rest (step_since step h) s

-- ---- the calls that were made below
-- no setup of this store stands in it
abbrev NoneOf : Store → List Happened → Type 0
NoneOf s hs = (before after : List Happened) (size count : ℕ) (a : Answered) → hs ≢ before ++ (did (SettingUp s size count) a ∷ after)

abbrev NoneOfBoth : List Happened → Type 0
NoneOfBoth hs = (before after : List Happened) (size count other-size other-count : ℕ) (a : Answered)
    → hs ≢ before ++ (did (SettingUpBoth size count other-size other-count) a ∷ after)

later : {s : Store} {h : Happened} {hs : List Happened} → NoneOf s (h ∷ hs) → NoneOf s hs
later {h = h} n before after size count a e = n (h ∷ before) after size count a (ap (λ (x : List Happened). h ∷ x) e)

later_both : {h : Happened} {hs : List Happened} → NoneOfBoth (h ∷ hs) → NoneOfBoth hs
later_both {h = h} n before after size count other-size other-count a e =
    n (h ∷ before) after size count other-size other-count a (ap (λ (x : List Happened). h ∷ x) e)

-- a setup leaves the other store
beside_kept : {E : Edition} {lent u : Two} {size count : ℕ} {a : Answered} (t : Two) (named s : Store) → named ≢ s
    → at (other named) lent ≡ at (other named) t → PacketSetup E named size count lent u a → at s u ≡ at s t
beside_kept t OnChip OnChip n beside p = absurd (n refl)
beside_kept t OnChip External n beside p = p.other_kept ∙ beside
beside_kept t External OnChip n beside p = p.other_kept ∙ beside
beside_kept t External External n beside p = absurd (n refl)

module _ {E : Edition} (s : Store) where
  along : {t u : Two} {hs : List Happened} (run : PacketRun E t hs u) → NoneOf s hs → NoneOfBoth hs
      → Run E (at s t).words (made_along E s run) (at s u).words × NoSetup (made_along E s run)
  unfolding made_along
  along nothing n m = (below.nothing, tt)
  along (then (called {t = t} {c = c} p) rest) n m =
      let on = along rest (later n) (later_both m) in
      (joined E (p.made s) on.0, no_setups (made_on E s c t) (made_along E s rest) (made_none E s c t) on.1)
  along {u = end} (then {t = t} {u = u} {a = a} {hs = hs} (set_up {s = named} {size = size} {count = count} same beside p) rest) n m =
      let on = along rest (later n) (later_both m) in
      let other-named : named ≢ s = λ e. n [] hs size count a (ap (λ (x : Store). did (SettingUp x size count) a ∷ hs) e) in
      (subst (λ (k : Kept). Run E k.words (made_along E s rest) (at s end).words) (beside_kept t named s other-named beside p) on.0, on.1)
  along (then {a = a} {hs = hs} (set_up_both {size = size} {count = count} {other-size = other-size} {other-count = other-count} same same-too p) rest)
      n m = absurd (m [] hs size count other-size other-count a refl)
  along (then (audited e p) rest) n m = along rest (later n) (later_both m)

module _ (E : Edition) where
  pub stands : {t u : Two} {hs : List Happened} → AllBare E t → PacketRun E t hs u → (s : Store)
      → (((at s u).words.count ≡ 0) × ((at s u).words.size ≡ 0))
      ⊎ ((size : ℕ) × (count : ℕ) × (at_first : Words) × (ds : List Done) × Since E size count (setup by_class size count) at_first ds (at s u).words
      × (size ≤ length (at s u).bytes))
  stands {u = u} b run s = elim (run_since run (λ (x : Store). bare_since (b.each x)) s) [
    | none_there c z ↦ inl (c, z)
    | since_then size count at_first ds since long ↦ inr (size, count, at_first, ds, since, long)
  ]

  pub made_along_lem : {t u : Two} {hs : List Happened} (s : Store) (run : PacketRun E t hs u) → NoneOf s hs → NoneOfBoth hs
      → Run E (at s t).words (made_along E s run) (at s u).words × NoSetup (made_along E s run)
  made_along_lem s run n m = along s run n m

  pub not_short : {t u : Two} {hs : List Happened} → AllBare E t → PacketRun E t hs u → ¬ Short u
  not_short b run (inl h) = omega (arith, h, never_short (store_stands E b run OnChip))
  not_short b run (inr h) = omega (arith, h, never_short (store_stands E b run External))

  pub audit_says_yes : {t u : Two} {hs : List Happened} {s : Store} {scratch left : List ℕ} {a : Answered} → AllBare E t → PacketRun E t hs u
      → PacketAudit E s u scratch left a → (at s u).words.count ≢ 0 → (at s u).words.count ≤ length scratch → a ≡ plain done
  audit_says_yes {s = s} b run p some-count room =
      let made = p.made (two_stores.not_short (run_from_bare E b run)) in
      elim (store_stands E b run s) [
        | not_there c z e ↦ absurd (some-count c)
        | there l S ↦
            let yes = made.2.yes_exactly.1 (record { tables_room = S.sound.room.tables; scratch_room = room }, (l, S.sound)) in
            made.1 ∙ ap plain yes
      ]
