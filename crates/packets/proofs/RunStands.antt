-- Along a run the two stores stand beside the lists that the history makes. Assumes nothing.
use mathlib.Core.Path.{◌≡◌, sym, subst, ◌∙◌}
use mathlib.Core.List.{List, []}
use Prim.Native.Nat.{ℕ}
use Rattle.tables.specs.Words.{Edition}
use Rattle.packets.specs.declared.Store.{Store}
use Rattle.packets.specs.declared.Store.TheVariants.{OnChip, External}
use Rattle.packets.specs.Stores.{Kept, Two, at, other}
use Rattle.packets.specs.Calls.{PacketCall, Answered}
use Rattle.packets.specs.Promise.{PacketPromise, PacketSetup}
use Rattle.packets.specs.Runs.{Asking, SettingUp, Happened, did, PacketStep, called, set_up, set_up_both, audited, PacketRun, nothing, then}
use Rattle.packets.specs.Shelf.{Held, noted, shelf}
use Rattle.packets.specs.Claims.{AllBare}
use Rattle.packets.proofs.Stood.{Stood, bare_stands}
use Rattle.packets.proofs.TwoStores.{Stand, Follows, call_follows}
use Rattle.packets.proofs.BareSetups.{set_up_bare, set_up_both_bare}

module _ (E : Edition) where
  -- ---- a call that keeps its promise
  pub promise_follows : {c : PacketCall} {t u : Two} {a : Answered} {ons exs : List Held} → Stand E t ons exs → PacketPromise E c t u a
      → Follows E c ons exs (a, u)
  promise_follows {c} {ons = ons} {exs} st p = subst (Follows E c ons exs) (sym p.exact) (call_follows E st c)

  -- ---- a setup of one store
  other_stands : {k m : Kept} {held : List Held} → k ≡ m → Stood E m held → Stood E k held
  other_stands {held = held} e st = subst (λ (x : Kept). Stood E x held) (sym e) st

  setup_stands : {t lent u : Two} {size count : ℕ} {a : Answered} {ons exs : List Held} (s : Store) → at (other s) lent ≡ at (other s) t
      → PacketSetup E s size count lent u a → Stand E t ons exs
      → Stand E u (noted OnChip (did (SettingUp s size count) a) ons) (noted External (did (SettingUp s size count) a) exs)
  unfolding noted
  setup_stands OnChip beside p st = record {
    on_chip_stands = bare_stands (set_up_bare E p);
    external_stands = other_stands (p.other_kept ∙ beside) st.external_stands;
  }
  setup_stands External beside p st = record {
    on_chip_stands = other_stands (p.other_kept ∙ beside) st.on_chip_stands;
    external_stands = bare_stands (set_up_bare E p);
  }

  -- ---- every step
  pub all_bare_stands : {t : Two} → AllBare E t → Stand E t [] []
  all_bare_stands b = record { on_chip_stands = bare_stands (b.each OnChip); external_stands = bare_stands (b.each External) }

  pub step_stands : {t u : Two} {q : Asking} {a : Answered} {ons exs : List Held} → PacketStep E t q a u → Stand E t ons exs
      → Stand E u (noted OnChip (did q a) ons) (noted External (did q a) exs)
  unfolding noted
  step_stands (called p) st = (promise_follows st p).stands
  step_stands (set_up {s = s} lent beside p) st = setup_stands s beside p st
  step_stands (set_up_both lent lent-too p) st = all_bare_stands (set_up_both_bare E p)
  step_stands (audited e p) st = st

  -- ---- every run
  pub run_stands : {t u : Two} {hs : List Happened} {ons exs : List Held} → PacketRun E t hs u → Stand E t ons exs
      → Stand E u (shelf OnChip hs ons) (shelf External hs exs)
  unfolding shelf
  run_stands nothing st = st
  run_stands (then step rest) st = run_stands rest (step_stands step st)

  -- from bare stores
  pub run_from_bare : {t u : Two} {hs : List Happened} → AllBare E t → PacketRun E t hs u → Stand E u (shelf OnChip hs []) (shelf External hs [])
  run_from_bare b run = run_stands run (all_bare_stands b)

  pub store_stands : {t u : Two} {hs : List Happened} → AllBare E t → PacketRun E t hs u → (s : Store) → Stood E (at s u) (shelf s hs [])
  store_stands b run OnChip = (run_from_bare b run).on_chip_stands
  store_stands b run External = (run_from_bare b run).external_stands
