-- A packet call of a stretch, by the calls that it makes on each store: there they are a piece of a stretch of one store. Assumes nothing.
use mathlib.Core.Path.{◌≡◌, refl, sym, ap, subst, ◌∙◌}
use mathlib.Core.Logic.{◌≢◌}
use mathlib.Core.Bool.{Bool, true, false, cond}
use mathlib.Core.List.{List, [], ◌∷◌, ◌++◌}
use Prim.Native.Nat.{ℕ}
use Rattle.basics.proofs.Clash.{clash}
use Rattle.ledger.specs.Ledger.{Answer, granted, done, refused}
use Rattle.ledger.specs.Calls.{Request, Token, span_of}
use Rattle.ledger.specs.Calls as ledger
use Rattle.ledger.specs.Stretch.{Stretch, grants, returns, refuses, asks}
use Rattle.tables.specs.Words.{Edition}
use Rattle.tables.specs.Calls.{answer_words}
use Rattle.demands.specs.Runs.{Done, did, Calling, NoSetup, log_of}
use Rattle.packets.specs.declared.Store.{Store}
use Rattle.packets.specs.declared.Store.TheVariants.{OnChip, External}
use Rattle.packets.specs.Stores.{Two, at}
use Rattle.packets.specs.OneStore.{take_in, hand_back_in}
use Rattle.packets.specs.Calls.{PacketCall, Take, HandBack, Fill, Read, LengthOf, ReportOf, Answered, packet, plain}
use Rattle.packets.specs.Calls.{too_short, nine, goes_on, on, take_from, packet_words}
use Rattle.packets.specs.Promise.{tried_on, if_named, once, calls_on, made_on, PacketPromise}
use Rattle.packets.proofs.TakeAnswers.{first_granted, went_on, BothRefused, both_refused, take_past}

-- ---- calls on one store that come before a stretch in which the spans of `after` are to be handed back, and with it make one of `own`
pub record Passes (own after : List Token) (ds : List Done) : Type 0 where
  pub no_setup : NoSetup ds
  pub onward : (rest : List Done) → Stretch after (log_of rest) → Stretch own (log_of (ds ++ rest))

none_made : {own : List Token} → Passes own own []
none_made = record { no_setup = tt; onward = λ rest h. h }

one_refused : {own : List Token} (c : ledger.Call) (k : ℕ) → Passes own own (did (Calling c) (refused k) ∷ [])
unfolding log_of
one_refused c k = record { no_setup = tt; onward = λ rest h. refuses h }

one_asked : {own : List Token} (q : ledger.Question) (a : Answer) → Passes own own (did (Calling (ledger.Ask q)) a ∷ [])
unfolding log_of
one_asked q a = record { no_setup = tt; onward = λ rest h. asks h }

one_granted : {own : List Token} (asked : Request) (o r : ℕ)
    → Passes own (span_of o r ∷ own) (did (Calling (ledger.Take asked)) (granted o r) ∷ [])
unfolding log_of
one_granted asked o r = record { no_setup = tt; onward = λ rest h. grants h }

one_returned : {own : List Token} (span : Token) → Passes (span ∷ own) own (did (Calling (ledger.HandBack span)) done ∷ [])
unfolding log_of
one_returned span = record { no_setup = tt; onward = λ rest h. returns h }

-- the same with the answer that the words gave
answered : {own after : List Token} {c : ledger.Call} {a b : Answer} → b ≡ a → Passes own after (did (Calling c) a ∷ [])
    → Passes own after (did (Calling c) b ∷ [])
answered {own} {after} {c} e p = subst (λ (x : Answer). Passes own after (did (Calling c) x ∷ [])) (sym e) p

module _ (E : Edition) where
  -- ---- the calls that are made, where no store is too short
  past_nine : {own after : List Token} (s : Store) (c : PacketCall) (t : Two) → too_short t ≡ false → Passes own after (calls_on E s c t)
      → Passes own after (made_on E s c t)
  unfolding made_on
  past_nine {own} {after} s c t e p = subst (λ (b : Bool). Passes own after (cond b [] (calls_on E s c t))) (sym e) p

  -- and where one may be
  either_way : {own : List Token} (s : Store) (c : PacketCall) (t : Two) → (too_short t ≡ false → Passes own own (calls_on E s c t))
      → Passes own own (made_on E s c t)
  unfolding made_on
  either_way {own} s c t p = go (too_short t) p
    where
      go : (b : Bool) → (b ≡ false → Passes own own (calls_on E s c t)) → Passes own own (cond b [] (calls_on E s c t))
      go true q = none_made
      go false q = q refl

  -- ---- a question
  question_passes : {own : List Token} (named s : Store) (q : ledger.Question) (t : Two) → Passes own own (if_named named s (once E (ledger.Ask q) s t))
  question_passes OnChip OnChip q t = one_asked q _
  question_passes OnChip External q t = none_made
  question_passes External OnChip q t = none_made
  question_passes External External q t = one_asked q _

  pub fill_passes : {own : List Token} (s named : Store) (span : Token) (new : List ℕ) (t : Two) → Passes own own (made_on E s (Fill named span new) t)
  fill_passes s named span new t = either_way s (Fill named span new) t (λ e. question_passes named s (ledger.SizeOf span) t)

  pub read_passes : {own : List Token} (s named : Store) (span : Token) (t : Two) → Passes own own (made_on E s (Read named span) t)
  read_passes s named span t = either_way s (Read named span) t (λ e. question_passes named s (ledger.SizeOf span) t)

  pub length_passes : {own : List Token} (s named : Store) (span : Token) (t : Two) → Passes own own (made_on E s (LengthOf named span) t)
  length_passes s named span t = either_way s (LengthOf named span) t (λ e. question_passes named s (ledger.SizeOf span) t)

  pub report_passes : {own : List Token} (s named : Store) (t : Two) → Passes own own (made_on E s (ReportOf named) t)
  report_passes s named t = either_way s (ReportOf named) t (λ e. question_passes named s ledger.Report t)

  -- ---- a take
  abbrev first_of : Request → Two → Answer
  first_of asked t = (answer_words E (ledger.Take asked) t.on_chip.words).0

  abbrev second_of : Request → Two → Answer
  second_of asked t = (answer_words E (ledger.Take asked) t.external.words).0

  tried : {own after : List Token} {a b : Answer} (asked : Request) (t : Two) → first_of asked t ≡ a → second_of asked t ≡ b
      → Passes own after (tried_on a (did (Calling (ledger.Take asked)) b ∷ [])) → Passes own after (calls_on E External (Take asked) t)
  tried {own} {after} {a} asked t e f p =
      subst (λ (x : Answer). Passes own after (tried_on x (once E (ledger.Take asked) External t))) (sym e)
      (subst (λ (x : Answer). Passes own after (tried_on a (did (Calling (ledger.Take asked)) x ∷ []))) (sym f) p)

  module _ {asked : Request} {t u : Two} where
    -- granted on the chip: the other store is not tried
    module _ {o r : ℕ} (p : PacketPromise E (Take asked) t u (packet OnChip o r)) where
      on_chip_granted : (too_short t ≡ false) × (first_of asked t ≡ granted o r)
      unfolding take_from take_in
      on_chip_granted =
          let so = take_past E (λ e. clash (cc)) p in
          (so.0, first_granted (first_of asked t) _ t.external (take_in E asked t.external) (ap (λ (x : Answered × Two). x.0) so.1))

      pub granted_here : {own : List Token} → Passes own (span_of o r ∷ own) (made_on E OnChip (Take asked) t)
      granted_here = past_nine OnChip (Take asked) t on_chip_granted.0 (answered on_chip_granted.1 (one_granted asked o r))

      pub not_tried : {own : List Token} → Passes own own (made_on E External (Take asked) t)
      not_tried = past_nine External (Take asked) t on_chip_granted.0 (tried asked t on_chip_granted.1 refl none_made)

    -- granted outside: the first try is one refused call
    module _ {o r : ℕ} (p : PacketPromise E (Take asked) t u (packet External o r)) where
      outside_granted : (too_short t ≡ false) × ((k : ℕ) × (first_of asked t ≡ refused k) × (goes_on k ≡ true) × (second_of asked t ≡ granted o r))
      unfolding take_from take_in
      outside_granted =
          let so = take_past E (λ e. clash (cc)) p in
          let there = went_on (first_of asked t) _ t.external (take_in E asked t.external) (ap (λ (x : Answered × Two). x.0) so.1) in
          (so.0, (there.number, there.first_refused, there.goes, there.second_granted))

      pub first_refused : {own : List Token} → Passes own own (made_on E OnChip (Take asked) t)
      first_refused =
          let so = outside_granted in
          past_nine OnChip (Take asked) t so.0 (answered so.1.1 (one_refused (ledger.Take asked) so.1.0))

      pub granted_there : {own : List Token} → Passes own (span_of o r ∷ own) (made_on E External (Take asked) t)
      granted_there {own} =
          let so = outside_granted in
          past_nine External (Take asked) t so.0
          (tried asked t so.1.1 so.1.3
          (subst (λ (b : Bool). Passes own (span_of o r ∷ own) (cond b (did (Calling (ledger.Take asked)) (granted o r) ∷ []) [])) (sym so.1.2)
          (one_granted asked o r)))

    -- refused: by the first store, and by the second if it was tried
    module _ {n : ℕ} (p : PacketPromise E (Take asked) t u (plain (refused n))) where
      take_refused : {own : List Token} → too_short t ≡ false → (s : Store) → Passes own own (calls_on E s (Take asked) t)
      unfolding packet_words take_from take_in
      take_refused {own} long s = go s
        where
          shut : BothRefused (first_of asked t) (take_in E asked t.external)
          shut =
              both_refused (first_of asked t) _ t.external (take_in E asked t.external)
              (ap (λ (x : Answered × Two). x.0) (p.exact ∙ ap (λ (b : Bool). nine b t (take_from E asked t)) long))

          second : (goes : Bool) → (goes ≡ true → (m : ℕ) × (second_of asked t ≡ refused m))
              → Passes own own (cond goes (did (Calling (ledger.Take asked)) (second_of asked t) ∷ []) [])
          second true h = let so = h refl in answered so.1 (one_refused (ledger.Take asked) so.0)
          second false h = none_made

          go : (named : Store) → Passes own own (calls_on E named (Take asked) t)
          go OnChip = answered shut.first_refused (one_refused (ledger.Take asked) shut.number)
          go External = tried asked t shut.first_refused refl (second (goes_on shut.number) shut.then_refused)

  -- ---- a hand-back
  back_passes : {own after : List Token} {a : Answer} (named : Store) (span : Token) (t : Two)
      → (answer_words E (ledger.HandBack span) (at named t).words).0 ≡ a → Passes own after (did (Calling (ledger.HandBack span)) a ∷ [])
      → Passes own after (calls_on E named (HandBack named span) t)
  back_passes OnChip span t e p = answered e p
  back_passes External span t e p = answered e p

  not_named : {own : List Token} (s named : Store) (span : Token) (t : Two) → s ≢ named → Passes own own (calls_on E s (HandBack named span) t)
  not_named OnChip OnChip span t h = absurd (h refl)
  not_named OnChip External span t h = none_made
  not_named External OnChip span t h = none_made
  not_named External External span t h = absurd (h refl)

  back_answer : {named : Store} {span : Token} {t u : Two} {a : Answer} → too_short t ≡ false → PacketPromise E (HandBack named span) t u (plain a)
      → (answer_words E (ledger.HandBack span) (at named t).words).0 ≡ a
  unfolding packet_words hand_back_in
  back_answer {named} {span} {t} long p =
      let told = ap (λ (x : Answered × Two). x.0) (p.exact ∙ ap (λ (b : Bool). nine b t (on named t (hand_back_in E span (at named t)))) long) in
      cc

  module _ {named : Store} {span : Token} {t u : Two} (p : PacketPromise E (HandBack named span) t u (plain done)) where
    back_long : too_short t ≡ false
    unfolding packet_words
    back_long = go (too_short t) (ap (λ (x : Answered × Two). x.0) p.exact)
      where
        go : (b : Bool) → plain done ≡ (nine b t (on named t (hand_back_in E span (at named t)))).0 → b ≡ false
        go true e = clash (cc)
        go false e = refl

    pub returned_here : {own : List Token} → Passes (span ∷ own) own (made_on E named (HandBack named span) t)
    returned_here = past_nine named (HandBack named span) t back_long (back_passes named span t (back_answer back_long p) (one_returned span))

    pub returned_elsewhere : {own : List Token} (s : Store) → s ≢ named → Passes own own (made_on E s (HandBack named span) t)
    returned_elsewhere s h = past_nine s (HandBack named span) t back_long (not_named s named span t h)

  -- ---- whatever is refused
  pub refused_passes : {own : List Token} {t u : Two} {k : ℕ} (s : Store) (c : PacketCall) → PacketPromise E c t u (plain (refused k))
      → Passes own own (made_on E s c t)
  refused_passes {t = t} s (Take asked) p = either_way s (Take asked) t (λ long. take_refused p long s)
  refused_passes {own} {t} {u} {k} s (HandBack named span) p = either_way s (HandBack named span) t (λ long. go s named p (back_answer long p))
    where
      go : (s named : Store) → PacketPromise E (HandBack named span) t u (plain (refused k))
          → (answer_words E (ledger.HandBack span) (at named t).words).0 ≡ refused k → Passes own own (calls_on E s (HandBack named span) t)
      go OnChip OnChip q e = answered e (one_refused (ledger.HandBack span) k)
      go OnChip External q e = none_made
      go External OnChip q e = none_made
      go External External q e = answered e (one_refused (ledger.HandBack span) k)
  refused_passes {t = t} s (Fill named span new) p = fill_passes s named span new t
  refused_passes {t = t} s (Read named span) p = read_passes s named span t
  refused_passes {t = t} s (LengthOf named span) p = length_passes s named span t
  refused_passes {t = t} s (ReportOf named) p = report_passes s named t
