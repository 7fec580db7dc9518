-- What the claims say of a history shuts out just what it is to shut out, and leaves out nothing. Assumes nothing.
use mathlib.Core.Path.{◌≡◌, refl, sym, ap, ◌∙◌}
use mathlib.Core.Logic.{◌⊎◌, inl, inr, ◌≢◌}
use mathlib.Core.Option.{none, some}
use mathlib.Core.List.{List, [], ◌∷◌, ◌++◌}
use Prim.Native.Nat.{ℕ, ◌+◌, ◌-◌, ◌≤◌, ◌<◌}
use native.Mathlib.Omega.{arith}
use lib.ListN.{length, get_or, drop, length-append, length-drop, get_or-append}
use lib.Seq.{get_or-append-add, get_or-drop}
use Rattle.basics.proofs.Clash.{clash}
use Rattle.ledger.specs.Calls.{Token}
use Rattle.packets.specs.declared.Store.{Store}
use Rattle.packets.specs.Calls.{Take, HandBack, Fill, Read, LengthOf, ReportOf, Answered, packet}
use Rattle.packets.specs.Runs.{Asking, Calling, SettingUp, SettingUpBoth, Auditing, Happened, did}
use Rattle.packets.specs.Shelf.{Held, contents, strike, refilled, refill}
use Rattle.packets.specs.Stretch.{
  ended,
  grants_on_chip,
  grants_outside,
  returns-on-chip,
  returns-outside,
  refuses,
  fills,
  reads,
  measures,
  reports,
  audits,
}
use Rattle.packets.specs.Stretch.{told_of, all_told}
use Rattle.packets.specs.Claims.{Stays, AllStay, NotGranted}
use Rattle.packets.specs.HistoryMeans.{Lacks, FirstOf, HistoryMeans}
use Rattle.packets.proofs.Listed.{Compared, one_span, two_spans, compared}

-- ---- what stays out
stays_there : (s : Store) (span : Token) (before after : List Happened) (h : Happened) → AllStay s span (before ++ (h ∷ after)) → Stays s span h
stays_there s span [] after h all = all.0
stays_there s span (g ∷ before) after h all = stays_there s span before after h all.1

module _ (s : Store) (span : Token) where
  -- what does not stay, if one happening is looked at
  one_stays : (h : Happened) → ((a : Answered) → h ≢ did (Calling (HandBack s span)) a)
      → ((size count : ℕ) (a : Answered) → h ≢ did (SettingUp s size count) a)
      → ((size count other-size other-count : ℕ) (a : Answered) → h ≢ did (SettingUpBoth size count other-size other-count) a) → Stays s span h
  one_stays (did (Calling (Take asked)) a) x y z = tt
  one_stays (did (Calling (HandBack named back)) a) x y z = λ e f. x a (λ i. did (Calling (HandBack (e i) (f i))) a)
  one_stays (did (Calling (Fill named other new)) a) x y z = tt
  one_stays (did (Calling (Read named other)) a) x y z = tt
  one_stays (did (Calling (LengthOf named other)) a) x y z = tt
  one_stays (did (Calling (ReportOf named)) a) x y z = tt
  one_stays (did (SettingUp named size count) a) x y z = λ e. y size count a (λ i. did (SettingUp (e i) size count) a)
  one_stays (did (SettingUpBoth size count other-size other-count) a) x y z = z size count other-size other-count a refl
  one_stays (did (Auditing named n) a) x y z = tt

  only_these : (hs : List Happened)
      → ((before after : List Happened) (a : Answered) → hs ≢ before ++ (did (Calling (HandBack s span)) a ∷ after))
      → ((before after : List Happened) (size count : ℕ) (a : Answered) → hs ≢ before ++ (did (SettingUp s size count) a ∷ after))
      → ((before after : List Happened) (size count other-size other-count : ℕ) (a : Answered)
      → hs ≢ before ++ (did (SettingUpBoth size count other-size other-count) a ∷ after))
      → AllStay s span hs
  only_these [] x y z = tt
  only_these (h ∷ hs) x y z = (
    one_stays h (λ a e. x [] hs a (ap (λ (g : Happened). g ∷ hs) e)) (λ size count a e. y [] hs size count a (ap (λ (g : Happened). g ∷ hs) e))
        (λ size count other-size other-count a e. z [] hs size count other-size other-count a (ap (λ (g : Happened). g ∷ hs) e)),
    only_these hs
        (λ before after a e. x (h ∷ before) after a (ap (λ (gs : List Happened). h ∷ gs) e))
        (λ before after size count a e. y (h ∷ before) after size count a (ap (λ (gs : List Happened). h ∷ gs) e))
        (λ before after size count other-size other-count a e.
        z (h ∷ before) after size count other-size other-count a (ap (λ (gs : List Happened). h ∷ gs) e)),
  )

  -- ---- what is not granted
  grant_shut_out : (before after : List Happened) (q : Asking)
      → ¬ NotGranted s span (before ++ (did q (packet s span.offset span.number) ∷ after))
  grant_shut_out [] after q n = n.0 refl
  grant_shut_out (did p b ∷ before) after q n = grant_shut_out before after q n.1

  only_grants : (hs : List Happened)
      → ((before after : List Happened) (q : Asking) → hs ≢ before ++ (did q (packet s span.offset span.number) ∷ after))
      → NotGranted s span hs
  only_grants [] x = tt
  only_grants (did q a ∷ hs) x = (
    λ e. x [] hs q (ap (λ (b : Answered). did q b ∷ hs) e),
    only_grants hs (λ before after p e. x (did q a ∷ before) after p (ap (λ (gs : List Happened). did q a ∷ gs) e)),
  )

-- ---- lists of packets
module _ (span : Token) where
  lacks_or_first : (held : List Held) → Lacks span held ⊎ FirstOf span held
  lacks_or_first [] = inl tt
  lacks_or_first (h ∷ held) = go (compared h.span span) (lacks_or_first held)
    where
      go : Compared h.span span → Lacks span held ⊎ FirstOf span held → Lacks span (h ∷ held) ⊎ FirstOf span (h ∷ held)
      go (one_span e f) rest =
          inr record { front = []; held_packet = h; back = held; list_is = refl; its_span = e; none_before = tt }
      go (two_spans e f) (inl none_there) = inl (e, none_there)
      go (two_spans e f) (inr first) = inr record {
        front = h ∷ first.front;
        held_packet = first.held_packet;
        back = first.back;
        list_is = ap (λ (hs : List Held). h ∷ hs) first.list_is;
        its_span = first.its_span;
        none_before = (e, first.none_before);
      }

  contents_first : (front back : List Held) (h : Held) → Lacks span front → h.span ≡ span → contents span (front ++ (h ∷ back)) ≡ some h.bytes
  unfolding contents
  contents_first [] back h none_before e = elim (compared h.span span) [ one_span p f ↦ rw f | two_spans p f ↦ absurd (p e) ]
  contents_first (g ∷ front) back h none_before e = elim (compared g.span span) [
    | one_span p f ↦ absurd (none_before.0 p)
    | two_spans p f ↦ rw f (contents_first front back h none_before.1 e)
  ]

  strike_first : (front back : List Held) (h : Held) → Lacks span front → h.span ≡ span → strike span (front ++ (h ∷ back)) ≡ front ++ back
  unfolding strike
  strike_first [] back h none_before e = elim (compared h.span span) [ one_span p f ↦ rw f | two_spans p f ↦ absurd (p e) ]
  strike_first (g ∷ front) back h none_before e = elim (compared g.span span) [
    | one_span p f ↦ absurd (none_before.0 p)
    | two_spans p f ↦ rw f (ap (λ (hs : List Held). g ∷ hs) (strike_first front back h none_before.1 e))
  ]

  refill_first : (new : List ℕ) (front back : List Held) (h : Held) → Lacks span front → h.span ≡ span
      → refill span new (front ++ (h ∷ back)) ≡ front ++ (record { span = h.span; bytes = refilled new h.bytes } ∷ back)
  unfolding refill
  refill_first new [] back h none_before e = elim (compared h.span span) [ one_span p f ↦ rw f | two_spans p f ↦ absurd (p e) ]
  refill_first new (g ∷ front) back h none_before e = elim (compared g.span span) [
    | one_span p f ↦ absurd (none_before.0 p)
    | two_spans p f ↦ rw f (ap (λ (hs : List Held). g ∷ hs) (refill_first new front back h none_before.1 e))
  ]

  first_is : (held : List Held) (f : FirstOf span held)
      → (contents span held ≡ some f.held_packet.bytes) × (strike span held ≡ f.front ++ f.back) × Lacks span f.front
  first_is held f = (
    ap (contents span) f.list_is ∙ contents_first f.front f.back f.held_packet f.none_before f.its_span,
    ap (strike span) f.list_is ∙ strike_first f.front f.back f.held_packet f.none_before f.its_span,
    f.none_before,
  )

  contents_lacks : (held : List Held) → Lacks span held → contents span held ≡ none
  unfolding contents
  contents_lacks [] l = refl
  contents_lacks (h ∷ held) l = elim (compared h.span span) [
    | one_span p f ↦ absurd (l.0 p)
    | two_spans p f ↦ rw f (contents_lacks held l.1)
  ]

  strike_lacks : (held : List Held) → Lacks span held → strike span held ≡ held
  unfolding strike
  strike_lacks [] l = refl
  strike_lacks (h ∷ held) l = elim (compared h.span span) [
    | one_span p f ↦ absurd (l.0 p)
    | two_spans p f ↦ rw f (ap (λ (hs : List Held). h ∷ hs) (strike_lacks held l.1))
  ]

  refill_lacks : (new : List ℕ) (held : List Held) → Lacks span held → refill span new held ≡ held
  unfolding refill
  refill_lacks new [] l = refl
  refill_lacks new (h ∷ held) l = elim (compared h.span span) [
    | one_span p f ↦ absurd (l.0 p)
    | two_spans p f ↦ rw f (ap (λ (hs : List Held). h ∷ hs) (refill_lacks new held l.1))
  ]

-- ---- bytes with new ones at their front
refilled_length : (new bytes : List ℕ) → length new ≤ length bytes → length (refilled new bytes) ≡ length bytes
refilled_length new bytes h =
    let rest : length (drop (length new) bytes) ≡ length bytes - length new = length-drop (length new) bytes in
    length-append new (drop (length new) bytes) ∙ omega (arith, rest, h)

refilled_front : (new bytes : List ℕ) (i : ℕ) → i < length new → get_or (refilled new bytes) i 0 ≡ get_or new i 0
refilled_front new bytes i h = get_or-append new (drop (length new) bytes) 0 i h

refilled_behind : (new bytes : List ℕ) (i : ℕ) → length new ≤ i → get_or (refilled new bytes) i 0 ≡ get_or bytes i 0
refilled_behind new bytes i h =
    let j = i - length new in
    let place : i ≡ length new + j = omega arith in
    ap (λ (x : ℕ). get_or (new ++ drop (length new) bytes) x 0) place
    ∙ get_or-append-add new (drop (length new) bytes) j 0
    ∙ get_or-drop (length new) bytes j 0
    ∙ ap (λ (x : ℕ). get_or bytes x 0) (sym place)

-- ---- what is told
every_answer : (before after : List Happened) (q : Asking) (a : Answered)
    → all_told (before ++ (did q a ∷ after)) ≡ all_told before ++ (told_of a ∷ all_told after)
unfolding all_told
every_answer [] after q a = refl
every_answer (did p b ∷ before) after q a = ap (λ (xs : List Answered). told_of b ∷ xs) (every_answer before after q a)

pub history_means : HistoryMeans
history_means = record {
  back_shut_out = λ s span before after a all. stays_there s span before after (did (Calling (HandBack s span)) a) all refl refl;
  setup_shut_out = λ s span before after size count a all. stays_there s span before after (did (SettingUp s size count) a) all refl;
  both_shut_out = λ s span before after size count other-size other-count a all.
      stays_there s span before after (did (SettingUpBoth size count other-size other-count) a) all;
  only_these = only_these;
  grant_shut_out = grant_shut_out;
  only_grants = only_grants;
  lacks_or_first = lacks_or_first;
  first_is = first_is;
  contents_first = contents_first;
  strike_first = strike_first;
  refill_first = refill_first;
  contents_lacks = contents_lacks;
  strike_lacks = strike_lacks;
  refill_lacks = refill_lacks;
  refilled_length = refilled_length;
  refilled_front = refilled_front;
  refilled_behind = refilled_behind;
  every_answer = every_answer;
  no_more_told = unfold all_told in refl;
  packet_told_lem = λ s named o r p n e. (cc, cc, cc);
  plain_told = λ a b e. cc;
  read_told = λ bytes others e. cc;
  packet_is_no_answer = λ s o r a e. clash (cc);
  may_grant = λ on ex hs asked o r. (grants_on_chip, grants_outside);
  may_return = λ on ex hs span p. (returns-on-chip p, returns-outside p);
  may_refuse = λ on ex hs c k p. refuses p;
  may_fill = λ on ex hs s span new a p. fills p;
  may_ask = λ on ex hs s span n a p. (reads p, measures p, reports p, audits p);
  may_end = ended;
}
