-- One packet along a history: while it stays out it holds what was filled into it, and after its return nothing, unless it is granted again. Assumes
-- nothing.
use mathlib.Core.Path.{◌≡◌, refl, sym, ap, subst, ◌∙◌}
use mathlib.Core.Logic.{◌≢◌}
use mathlib.Core.Bool.{Bool, true, false, cond, ◌&&◌}
use mathlib.Core.Option.{none, some}
use mathlib.Core.List.{List, [], ◌∷◌, ◌++◌}
use Prim.Native.Nat.{ℕ}
use Rattle.basics.proofs.Clash.{clash}
use Rattle.ledger.specs.Calls.{Token}
use Rattle.packets.specs.declared.Store.{Store}
use Rattle.packets.specs.declared.Store.TheVariants.{OnChip, External}
use Rattle.packets.specs.Calls.{PacketCall, Take, HandBack, Fill, Read, LengthOf, ReportOf, Answered, packet, shows, plain}
use Rattle.packets.specs.Runs.{Calling, SettingUp, SettingUpBoth, Auditing, Happened, did}
use Rattle.packets.specs.Shelf.{Held, same_span, contents, strike, refilled, refill, is_done, same, granted_in, noted, shelf, filled_since}
use Rattle.packets.specs.Claims.{Stays, NotGranted}
use Rattle.packets.proofs.Listed.{Compared, one_span, two_spans, compared, of_another, others_listed, none_struck}
use Rattle.packets.proofs.Listed.{refilled_its_own, refilled_others, none_refilled}

-- ---- two stores are one, or they are not
pub data SameStore (a b : Store) : Type 0 where
  one_store : a ≡ b → same a b ≡ true → SameStore a b
  two_stores : a ≢ b → same a b ≡ false → SameStore a b

pub one_store? : (a b : Store) → SameStore a b
one_store? OnChip OnChip = one_store refl refl
one_store? OnChip External = two_stores (λ e. clash (cc)) refl
one_store? External OnChip = two_stores (λ e. clash (cc)) refl
one_store? External External = one_store refl refl

and_false : (b : Bool) → (b && false) ≡ false
and_false true = refl
and_false false = refl

-- ---- a grant of another packet
module _ (s : Store) (span : Token) where
  -- not the packet of this name
  abbrev pub NotThis : Answered → Type 0
  NotThis a = a ≢ packet s span.offset span.number

  granted_beside : (n : ℕ) (a : Answered) (held : List Held) → NotThis a → contents span (granted_in s n a held) ≡ contents span held
  granted_beside n (packet named o r) held differs = go (one_store? named s)
    where
      go : SameStore named s → contents span (granted_in s n (packet named o r) held) ≡ contents span held
      go (one_store e f) = rw f (of_another _ span held
          (λ g. differs (λ i. packet (e i) (ap (λ (x : Token). x.offset) g i) (ap (λ (x : Token). x.number) g i))))
      go (two_stores e f) = rw f refl
  granted_beside n (shows bytes) held differs = refl
  granted_beside n (plain a) held differs = refl

  -- ---- one that stays out: after each call
  returned_beside : (named : Store) (back : Token) (b : Bool) (held : List Held) → ((named ≡ s) → back ≢ span)
      → contents span (cond (same named s && b) (strike back held) held) ≡ contents span held
  returned_beside named back b held stays = go b (one_store? named s)
    where
      go : (b : Bool) → SameStore named s → contents span (cond (same named s && b) (strike back held) held) ≡ contents span held
      go true (one_store e f) = rw f (others_listed back span held (stays e))
      go false (one_store e f) = rw f refl
      go b (two_stores e f) = rw f refl

  refilled_beside : (named : Store) (other : Token) (new bytes : List ℕ) (b : Bool) (held : List Held) → contents span held ≡ some bytes
      → contents span (cond (same named s && b) (refill other new held) held)
      ≡ some (cond (same named s && (same_span other span && b)) (refilled new bytes) bytes)
  refilled_beside named other new bytes b held is = go b (one_store? named s) (compared other span)
    where
      go : (b : Bool) → SameStore named s → Compared other span
          → contents span (cond (same named s && b) (refill other new held) held)
          ≡ some (cond (same named s && (same_span other span && b)) (refilled new bytes) bytes)
      go b (two_stores e f) c = rw f is
      go false (one_store e f) c = rw (f, and_false (same_span other span)) is
      go true (one_store e f) (one_span p g) =
          rw (f, g) (subst (λ (x : Token). contents span (refill x new held) ≡ some (refilled new bytes)) (sym p) (refilled_its_own span new bytes held is))
      go true (one_store e f) (two_spans p g) = rw (f, g) (refilled_others other span new held p ∙ is)

  pub call_holds : (c : PacketCall) (a : Answered) (held : List Held) (bytes : List ℕ) → NotThis a → Stays s span (did (Calling c) a)
      → contents span held ≡ some bytes
      → contents span (noted s (did (Calling c) a) held) ≡ some (filled_since s span (did (Calling c) a ∷ []) bytes)
  unfolding noted filled_since
  call_holds (Take asked) a held bytes new stays is = granted_beside asked.size a held new ∙ is
  call_holds (HandBack named back) a held bytes new stays is = returned_beside named back (is_done a) held stays ∙ is
  call_holds (Fill named other filling) a held bytes new stays is = refilled_beside named other filling bytes (is_done a) held is
  call_holds (Read named other) a held bytes new stays is = is
  call_holds (LengthOf named other) a held bytes new stays is = is
  call_holds (ReportOf named) a held bytes new stays is = is

  pub setup_holds : (named : Store) (size count : ℕ) (a : Answered) (held : List Held) → named ≢ s
      → contents span (noted s (did (SettingUp named size count) a) held) ≡ contents span held
  unfolding noted
  setup_holds named size count a held differs = go (one_store? named s)
    where
      go : SameStore named s → contents span (cond (same named s) [] held) ≡ contents span held
      go (one_store e f) = absurd (differs e)
      go (two_stores e f) = rw f refl

  -- what is filled in goes on from the first that happened
  pub filled_on : (h : Happened) (hs : List Happened) (bytes : List ℕ)
      → filled_since s span (h ∷ hs) bytes ≡ filled_since s span hs (filled_since s span (h ∷ []) bytes)
  unfolding filled_since
  filled_on (did (Calling (Take asked)) a) hs bytes = refl
  filled_on (did (Calling (HandBack named back)) a) hs bytes = refl
  filled_on (did (Calling (Fill named other new)) a) hs bytes = refl
  filled_on (did (Calling (Read named other)) a) hs bytes = refl
  filled_on (did (Calling (LengthOf named other)) a) hs bytes = refl
  filled_on (did (Calling (ReportOf named)) a) hs bytes = refl
  filled_on (did (SettingUp named size count) a) hs bytes = refl
  filled_on (did (SettingUpBoth size count other-size other-count) a) hs bytes = refl
  filled_on (did (Auditing named n) a) hs bytes = refl

  -- ---- one that is not out stays so, unless it is granted
  none_where : (b : Bool) (one other : List Held) → contents span one ≡ none → contents span other ≡ none → contents span (cond b one other) ≡ none
  none_where true one other e f = e
  none_where false one other e f = f

  none_noted : (h : Happened) (held : List Held) → NotGranted s span (h ∷ []) → contents span held ≡ none → contents span (noted s h held) ≡ none
  unfolding noted contents
  none_noted (did (Calling (Take asked)) a) held new is = granted_beside asked.size a held new.0 ∙ is
  none_noted (did (Calling (HandBack named back)) a) held new is =
      none_where (same named s && is_done a) (strike back held) held (none_struck back span held is) is
  none_noted (did (Calling (Fill named other filling)) a) held new is =
      none_where (same named s && is_done a) (refill other filling held) held (none_refilled other span filling held is) is
  none_noted (did (Calling (Read named other)) a) held new is = is
  none_noted (did (Calling (LengthOf named other)) a) held new is = is
  none_noted (did (Calling (ReportOf named)) a) held new is = is
  none_noted (did (SettingUp named size count) a) held new is = none_where (same named s) [] held refl is
  none_noted (did (SettingUpBoth size count other-size other-count) a) held new is = refl
  none_noted (did (Auditing named n) a) held new is = is

  pub none_since : (hs : List Happened) (held : List Held) → NotGranted s span hs → contents span held ≡ none → contents span (shelf s hs held) ≡ none
  unfolding shelf
  none_since [] held new is = is
  none_since (did q a ∷ hs) held new is = none_since hs (noted s (did q a) held) new.1 (none_noted (did q a) held (new.0, tt) is)

-- ---- a history in two parts
pub shelf_on : (s : Store) (before since : List Happened) (held : List Held) → shelf s (before ++ since) held ≡ shelf s since (shelf s before held)
unfolding shelf
shelf_on s [] since held = refl
shelf_on s (h ∷ before) since held = shelf_on s before since (noted s h held)
