-- The customer's theorem of one packet: what is read of it is what was filled into it since its grant, and after its return nothing. Assumes nothing.
use mathlib.Core.Path.{◌≡◌, refl, sym, ap, subst, ◌∙◌}
use mathlib.Core.Logic.{◌≢◌}
use mathlib.Core.Option.{none, some}
use mathlib.Core.List.{List, [], ◌∷◌, ◌++◌}
use Prim.Native.Nat.{ℕ}
use Rattle.basics.proofs.Clash.{clash}
use Rattle.ledger.specs.Ledger.{done}
use Rattle.ledger.specs.Calls.{Request, Token, span_of}
use Rattle.tables.specs.Words.{Edition}
use Rattle.parts.specs.Bytes.{not_heard}
use Rattle.packets.specs.declared.Store.{Store}
use Rattle.packets.specs.declared.Store.TheVariants.{OnChip, External}
use Rattle.packets.specs.Stores.{Kept, Two, at}
use Rattle.packets.specs.Calls.{Take, HandBack, Read, LengthOf, Answered, packet, shows, plain}
use Rattle.packets.specs.Promise.{PacketPromise}
use Rattle.packets.specs.Runs.{Asking, Calling, SettingUp, Happened, did, PacketStep, called, set_up, set_up_both, audited, PacketRun, nothing, then}
use Rattle.packets.specs.Shelf.{Held, contents, noted, shelf, filled_since}
use Rattle.packets.specs.Claims.{AllBare, AllStay, NotGranted, CannotBeRead}
use Rattle.packets.proofs.Listed.{Distinct, its_own, struck_gone}
use Rattle.packets.proofs.Stood.{Stood, not_there, there}
use Rattle.packets.proofs.TwoStores.{Stand, list_of}
use Rattle.packets.proofs.RunStands.{promise_follows, step_stands, run_from_bare, store_stands}
use Rattle.packets.proofs.Told.{read_is, read_none, length_none}
use Rattle.packets.proofs.Since.{SameStore, one_store, two_stores, one_store?, call_holds, setup_holds, filled_on, none_since, shelf_on}

-- what happened, noted for the store that is meant
listed_noted : (s : Store) (h : Happened) (ons exs : List Held) → list_of s (noted OnChip h ons) (noted External h exs) ≡ noted s h (list_of s ons exs)
listed_noted OnChip h ons exs = refl
listed_noted External h ons exs = refl

module _ (E : Edition) where
  -- ---- a run, a step and a run
  run_on : {t u v x : Two} {q : Asking} {a : Answered} {before since : List Happened} → PacketRun E t before u → PacketStep E u q a v
      → PacketRun E v since x → PacketRun E t (before ++ (did q a ∷ since)) x
  run_on nothing step rest = then step rest
  run_on (then first more) step rest = then first (run_on more step rest)

  shelf_along : (s : Store) (before since : List Happened) (h : Happened)
      → shelf s (before ++ (h ∷ since)) [] ≡ shelf s since (noted s h (shelf s before []))
  shelf_along s before since h = shelf_on s before (h ∷ since) [] ∙ (unfold shelf in refl)

  -- ---- a packet that stays out
  module _ (s : Store) (span : Token) where
    -- the first that happened, and then the rest
    go_on : (h : Happened) (hs : List Happened) (ons exs : List Held) (bytes : List ℕ)
        → contents span (noted s h (list_of s ons exs)) ≡ some (filled_since s span (h ∷ []) bytes)
        → ((now : List ℕ) → contents span (list_of s (noted OnChip h ons) (noted External h exs)) ≡ some now
        → contents span (shelf s hs (list_of s (noted OnChip h ons) (noted External h exs))) ≡ some (filled_since s span hs now))
        → contents span (shelf s (h ∷ hs) (list_of s ons exs)) ≡ some (filled_since s span (h ∷ hs) bytes)
    unfolding shelf
    go_on h hs ons exs bytes is more =
        let now : List ℕ = filled_since s span (h ∷ []) bytes in
        let list = listed_noted s h ons exs in
        ap (λ (held : List Held). contents span (shelf s hs held)) (sym list)
        ∙ more now (ap (λ (held : List Held). contents span held) list ∙ is)
        ∙ ap some (sym (filled_on s span h hs bytes))

    holds_since : {v x : Two} {since : List Happened} {ons exs : List Held} (bytes : List ℕ) → PacketRun E v since x → Stand E v ons exs
        → AllStay s span since → contents span (list_of s ons exs) ≡ some bytes
        → contents span (shelf s since (list_of s ons exs)) ≡ some (filled_since s span since bytes)
    unfolding shelf filled_since
    holds_since bytes nothing st stay is = is
    holds_since {ons = ons} {exs} bytes (then {hs = hs} (called {c = c} {a = a} p) rest) st stay is =
        let f = promise_follows E st p in
        let differs : a ≢ packet s span.offset span.number = λ e. clash (cc (f.was_free s span.offset span.number e, is)) in
        go_on (did (Calling c) a) hs ons exs bytes (call_holds s span c a (list_of s ons exs) bytes differs stay.0 is)
        (λ now e. holds_since now rest f.stands stay.1 e)
    holds_since {ons = ons} {exs} bytes (then {hs = hs} (set_up {s = named} {size = size} {count = count} {a = a} lent beside p) rest) st stay is =
        go_on (did (SettingUp named size count) a) hs ons exs bytes (setup_holds s span named size count a (list_of s ons exs) stay.0 ∙ is)
        (λ now e. holds_since now rest (step_stands E (set_up lent beside p) st) stay.1 e)
    holds_since bytes (then (set_up_both lent lent-too p) rest) st stay is = absurd stay.0
    holds_since bytes (then (audited e p) rest) st stay is = holds_since bytes rest st stay.1 is

  -- the list of the store that is meant, when a run is over and one thing more has happened
  list_then : (s : Store) (before : List Happened) (h : Happened)
      → noted s h (shelf s before []) ≡ list_of s (noted OnChip h (shelf OnChip before [])) (noted External h (shelf External before []))
  list_then OnChip before h = refl
  list_then External before h = refl

  -- ---- just granted, every byte of it is 255
  just_granted : (s : Store) (asked : Request) (o r : ℕ) (held : List Held)
      → contents (span_of o r) (noted s (did (Calling (Take asked)) (packet s o r)) held) ≡ some (not_heard asked.size)
  unfolding noted
  just_granted s asked o r held = go (one_store? s s)
    where
      go : SameStore s s → contents (span_of o r) (noted s (did (Calling (Take asked)) (packet s o r)) held) ≡ some (not_heard asked.size)
      go (one_store e f) = rw f (its_own (span_of o r) (not_heard asked.size) held)
      go (two_stores e f) = absurd (e refl)

  pub as_filled : {t u v x y : Two} {before since : List Happened} {asked : Request} {s : Store} {o r : ℕ} {a : Answered} → AllBare E t
      → PacketRun E t before u → PacketStep E u (Calling (Take asked)) (packet s o r) v → PacketRun E v since x → AllStay s (span_of o r) since
      → PacketPromise E (Read s (span_of o r)) x y a
      → a ≡ shows (filled_since s (span_of o r) since (not_heard asked.size))
  as_filled {before = before} {since} {asked} {s} {o} {r} bare run step rest stay p =
      let span : Token = span_of o r in
      let h : Happened = did (Calling (Take asked)) (packet s o r) in
      let ons : List Held = shelf OnChip before [] in
      let exs : List Held = shelf External before [] in
      let stands = step_stands E step (run_from_bare E bare run) in
      let list = list_then s before h in
      let at_first : contents span (list_of s (noted OnChip h ons) (noted External h exs)) ≡ some (not_heard asked.size) =
      ap (λ (held : List Held). contents span held) (sym list) ∙ just_granted s asked o r (shelf s before []) in
      let holds = holds_since s span (not_heard asked.size) rest stands stay at_first in
      read_is E bare (run_on run step rest) p
      (ap (λ (held : List Held). contents span held) (shelf_along s before since h ∙ ap (λ (held : List Held). shelf s since held) list) ∙ holds)

  -- ---- handed back, it is gone
  stood_distinct : {k : Kept} {held : List Held} → Stood E k held → Distinct held
  stood_distinct (not_there c s e) = subst Distinct (sym e) tt
  stood_distinct (there l s) = s.distinct

  just_returned : (s : Store) (span : Token) (held : List Held) → Distinct held
      → contents span (noted s (did (Calling (HandBack s span)) (plain done)) held) ≡ none
  unfolding noted
  just_returned s span held d = go (one_store? s s)
    where
      go : SameStore s s → contents span (noted s (did (Calling (HandBack s span)) (plain done)) held) ≡ none
      go (one_store e f) = rw f (struck_gone span held d)
      go (two_stores e f) = absurd (e refl)

  gone_since : {t u : Two} {before : List Happened} (since : List Happened) (s : Store) (span : Token) → AllBare E t
      → PacketRun E t before u → NotGranted s span since
      → contents span (shelf s (before ++ (did (Calling (HandBack s span)) (plain done) ∷ since)) []) ≡ none
  gone_since {before = before} since s span bare run new =
      let h : Happened = did (Calling (HandBack s span)) (plain done) in
      ap (λ (held : List Held). contents span held) (shelf_along s before since h)
      ∙ none_since s span since (noted s h (shelf s before [])) new (just_returned s span (shelf s before []) (stood_distinct (store_stands E bare run s)))

  pub not_after_return : {t u v x y : Two} {before since : List Happened} {s : Store} {span : Token} {a : Answered} → AllBare E t
      → PacketRun E t before u → PacketStep E u (Calling (HandBack s span)) (plain done) v → PacketRun E v since x → NotGranted s span since
      → PacketPromise E (Read s span) x y a → a ≡ shows []
  not_after_return {since = since} {s} {span} bare run step rest new p =
      read_none E bare (run_on run step rest) p (gone_since since s span bare run new)

  pub no_length_after_return : {t u v x y : Two} {before since : List Happened} {s : Store} {span : Token} {a : Answered} → AllBare E t
      → PacketRun E t before u → PacketStep E u (Calling (HandBack s span)) (plain done) v → PacketRun E v since x → NotGranted s span since
      → PacketPromise E (LengthOf s span) x y a → CannotBeRead (at s x) a
  no_length_after_return {since = since} {s} {span} bare run step rest new p =
      length_none E bare (run_on run step rest) p (gone_since since s span bare run new)
