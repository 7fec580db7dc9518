-- Each packet call on two stores that stand beside the lists of their packets: the stores that it leaves stand beside the lists as the history has
-- them, it does not give 9, and a packet that it grants was not out. Assumes nothing.
use mathlib.Core.Path.{◌≡◌, refl, sym, ap, subst}
use mathlib.Core.Logic.{inl, inr, ◌≢◌}
use mathlib.Core.Bool.{Bool, true, false, cond}
use mathlib.Core.Option.{none}
use mathlib.Core.List.{List}
use Prim.Native.Nat.{ℕ}
use native.Mathlib.Omega.{arith}
use lib.ListN.{length}
use borrow.Author.Tests.{le-ltb}
use Rattle.basics.proofs.Clash.{clash}
use Rattle.ledger.specs.Ledger.{Answer, refused}
use Rattle.ledger.specs.Calls.{Request, Token, span_of, Ask, Report}
use Rattle.tables.specs.Words.{Edition}
use Rattle.packets.specs.declared.Store.{Store}
use Rattle.packets.specs.declared.Store.TheVariants.{OnChip, External}
use Rattle.packets.specs.Stores.{Kept, Two, two, at}
use Rattle.packets.specs.Calls.{PacketCall, Take, HandBack, Fill, Read, LengthOf, ReportOf, Answered, packet, plain}
use Rattle.packets.specs.Calls.{too_short, nine, goes_on, from_external, after_first, on, take_from, packet_words}
use Rattle.packets.specs.Runs.{Calling, did}
use Rattle.packets.specs.Shelf.{Held, contents, noted}
use Rattle.packets.proofs.Stood.{Stood, never_short}
use Rattle.packets.proofs.OneStore.{NotOut, LengthCase, tells, tells_not, FillCase, fills, too_many, fills_not}
use Rattle.packets.proofs.OneStore.{BackCase, gives, gives_not, TakeCase, takes, takes_not, never_nine}
use Rattle.packets.proofs.Lengths.{length_case}
use Rattle.packets.proofs.Fills.{fill_case}
use Rattle.packets.proofs.HandBacks.{back_case}
use Rattle.packets.proofs.Takes.{take_case}

-- both stores, each beside its list
pub record Stand (E : Edition) (t : Two) (on_List ex-list : List Held) : Type 0 where
  pub on_chip_stands : Stood E t.on_chip on_List
  pub external_stands : Stood E t.external ex-list

-- the list of the store that is meant
abbrev pub list_of : Store → (on_List ex-list : List Held) → List Held
list_of OnChip ons exs = ons
list_of External ons exs = exs

pub stands_at : {E : Edition} {t : Two} {ons exs : List Held} → Stand E t ons exs → (s : Store) → Stood E (at s t) (list_of s ons exs)
stands_at st OnChip = st.on_chip_stands
stands_at st External = st.external_stands

-- ---- no store is too short
pub not_short : {E : Edition} {t : Two} {ons exs : List Held} → Stand E t ons exs → too_short t ≡ false
not_short {t = t} st = rw (
  le-ltb (length t.on_chip.bytes) t.on_chip.words.size (never_short st.on_chip_stands),
  le-ltb (length t.external.bytes) t.external.words.size (never_short st.external_stands),
) refl

-- ---- what follows of a call
pub record Follows (E : Edition) (c : PacketCall) (ons exs : List Held) (x : Answered × Two) : Type 0 where
  pub stands : Stand E x.1 (noted OnChip (did (Calling c) x.0) ons) (noted External (did (Calling c) x.0) exs)
  pub not_nine : x.0 ≢ plain (refused 9)
  pub was_free : (s : Store) (o r : ℕ) → x.0 ≡ packet s o r → contents (span_of o r) (list_of s ons exs) ≡ none

-- past the test for 9
past_nine : {E : Edition} {c : PacketCall} {ons exs : List Held} {x : Answered × Two} (t : Two) → too_short t ≡ false → Follows E c ons exs x
    → Follows E c ons exs (nine (too_short t) t x)
past_nine {E} {c} {ons} {exs} {x} t e f = subst (λ (b : Bool). Follows E c ons exs (nine b t x)) (sym e) f

plain_of : {a b : Answer} → plain a ≡ plain b → a ≡ b
plain_of e = cc

nine_of : (k : ℕ) → plain (refused k) ≡ plain (refused 9) → k ≡ 9
nine_of k e = cc

-- the packet that was granted
granted_free : (ons exs : List Held) (s named : Store) (p q o r : ℕ) → packet named o r ≡ packet s p q
    → contents (span_of o r) (list_of named ons exs) ≡ none → contents (span_of p q) (list_of s ons exs) ≡ none
granted_free ons exs s named p q o r e free =
    let store : named ≡ s = cc in
    let place : o ≡ p = cc in
    let number : r ≡ q = cc in
    subst (λ (x : Store). contents (span_of p q) (list_of x ons exs) ≡ none) store
    (subst (λ (x : Token). contents x (list_of named ons exs) ≡ none) (λ i. span_of (place i) (number i)) free)

module _ (E : Edition) where
  -- ---- a take
  module _ (asked : Request) {t : Two} {ons exs : List Held} (st : Stand E t ons exs) where
    second : {y : Answer × Kept} (c : ℕ) (goes : Bool) → c ≢ 9 → TakeCase E t.external exs asked y
        → Follows E (Take asked) ons exs
        (cond goes (from_external y.0, two t.on_chip y.1) (plain (refused c), two t.on_chip t.external))
    unfolding noted
    second c true h (takes o r free next) = record {
      stands = record { on_chip_stands = st.on_chip_stands; external_stands = next };
      not_nine = λ e. clash (cc);
      was_free = λ s p q e. granted_free ons exs s External p q o r e free;
    }
    second c true h (takes_not d k) = record {
      stands = st;
      not_nine = λ e. k (nine_of d e);
      was_free = λ s p q e. clash (cc);
    }
    second c false h y = record {
      stands = st;
      not_nine = λ e. h (nine_of c e);
      was_free = λ s p q e. clash (cc);
    }

    first_then : {x y : Answer × Kept} → TakeCase E t.on_chip ons asked x → TakeCase E t.external exs asked y
        → Follows E (Take asked) ons exs (after_first x.0 x.1 t.external y)
    unfolding noted
    first_then (takes o r free next) y = record {
      stands = record { on_chip_stands = next; external_stands = st.external_stands };
      not_nine = λ e. clash (cc);
      was_free = λ s p q e. granted_free ons exs s OnChip p q o r e free;
    }
    first_then (takes_not c h) y = second c (goes_on c) h y

    take_follows : Follows E (Take asked) ons exs (packet_words E (Take asked) t)
    unfolding packet_words take_from
    take_follows = past_nine t (not_short st) (first_then (take_case E st.on_chip_stands asked) (take_case E st.external_stands asked))

  out_not_nine : (k : Kept) (c : ℕ) → NotOut k c → c ≢ 9
  out_not_nine k c (inl e) n = omega arith
  out_not_nine k c (inr (inl e)) n = omega arith
  out_not_nine k c (inr (inr e)) n = omega (arith, e.0)

  -- ---- a hand-back
  module _ (span : Token) {t : Two} {ons exs : List Held} (st : Stand E t ons exs) where
    on_chip_back : {x : Answer × Kept} → BackCase E t.on_chip ons span x → Follows E (HandBack OnChip span) ons exs (on OnChip t x)
    unfolding noted
    on_chip_back (gives is next) = record {
      stands = record { on_chip_stands = next; external_stands = st.external_stands };
      not_nine = λ e. clash (cc);
      was_free = λ s p q e. clash (cc);
    }
    on_chip_back (gives_not c is why) = record {
      stands = st;
      not_nine = λ e. out_not_nine t.on_chip c why (nine_of c e);
      was_free = λ s p q e. clash (cc);
    }

    external_back : {x : Answer × Kept} → BackCase E t.external exs span x → Follows E (HandBack External span) ons exs (on External t x)
    unfolding noted
    external_back (gives is next) = record {
      stands = record { on_chip_stands = st.on_chip_stands; external_stands = next };
      not_nine = λ e. clash (cc);
      was_free = λ s p q e. clash (cc);
    }
    external_back (gives_not c is why) = record {
      stands = st;
      not_nine = λ e. out_not_nine t.external c why (nine_of c e);
      was_free = λ s p q e. clash (cc);
    }

    back_follows : (s : Store) → Follows E (HandBack s span) ons exs (packet_words E (HandBack s span) t)
    unfolding packet_words
    back_follows OnChip = past_nine t (not_short st) (on_chip_back (back_case E st.on_chip_stands span))
    back_follows External = past_nine t (not_short st) (external_back (back_case E st.external_stands span))

  -- ---- a fill
  module _ (span : Token) (new : List ℕ) {t : Two} {ons exs : List Held} (st : Stand E t ons exs) where
    on_chip_fill : {x : Answer × Kept} → FillCase E t.on_chip ons span new x → Follows E (Fill OnChip span new) ons exs (on OnChip t x)
    unfolding noted
    on_chip_fill (fills is few next) = record {
      stands = record { on_chip_stands = next; external_stands = st.external_stands };
      not_nine = λ e. clash (cc);
      was_free = λ s p q e. clash (cc);
    }
    on_chip_fill (too_many is more) = record {
      stands = st;
      not_nine = λ e. absurd (omega (arith, nine_of 17 e));
      was_free = λ s p q e. clash (cc);
    }
    on_chip_fill (fills_not c is why) = record {
      stands = st;
      not_nine = λ e. out_not_nine t.on_chip c why (nine_of c e);
      was_free = λ s p q e. clash (cc);
    }

    external_fill : {x : Answer × Kept} → FillCase E t.external exs span new x → Follows E (Fill External span new) ons exs (on External t x)
    unfolding noted
    external_fill (fills is few next) = record {
      stands = record { on_chip_stands = st.on_chip_stands; external_stands = next };
      not_nine = λ e. clash (cc);
      was_free = λ s p q e. clash (cc);
    }
    external_fill (too_many is more) = record {
      stands = st;
      not_nine = λ e. absurd (omega (arith, nine_of 17 e));
      was_free = λ s p q e. clash (cc);
    }
    external_fill (fills_not c is why) = record {
      stands = st;
      not_nine = λ e. out_not_nine t.external c why (nine_of c e);
      was_free = λ s p q e. clash (cc);
    }

    fill_follows : (s : Store) → Follows E (Fill s span new) ons exs (packet_words E (Fill s span new) t)
    unfolding packet_words
    fill_follows OnChip = past_nine t (not_short st) (on_chip_fill (fill_case E st.on_chip_stands span new))
    fill_follows External = past_nine t (not_short st) (external_fill (fill_case E st.external_stands span new))

  -- ---- the questions change nothing
  module _ {t : Two} {ons exs : List Held} (st : Stand E t ons exs) where
    read_follows : (s : Store) (span : Token) → Follows E (Read s span) ons exs (packet_words E (Read s span) t)
    unfolding packet_words noted
    read_follows s span = record { stands = st; not_nine = λ e. clash (cc); was_free = λ named p q e. clash (cc) }

    length_follows : (s : Store) (span : Token) → Follows E (LengthOf s span) ons exs (packet_words E (LengthOf s span) t)
    unfolding packet_words noted
    length_follows s span = past_nine t (not_short st) record {
      stands = st;
      not_nine = λ e. not_nine_told (length_case E (stands_at st s) span) (plain_of e);
      was_free = λ named p q e. clash (cc);
    }
      where
        not_nine_told : {a : Answer} → LengthCase (at s t) (list_of s ons exs) span a → a ≢ refused 9
        not_nine_told (tells n is many its) e = clash (cc)
        not_nine_told (tells_not c is why) e = out_not_nine (at s t) c why (nine_of c (ap plain e))

    report_follows : (s : Store) → Follows E (ReportOf s) ons exs (packet_words E (ReportOf s) t)
    unfolding packet_words noted
    report_follows s = past_nine t (not_short st) record {
      stands = st;
      not_nine = λ e. never_nine E (Ask Report) (at s t).words 9 (plain_of e) refl;
      was_free = λ named p q e. clash (cc);
    }

  -- ---- every call
  pub call_follows : {t : Two} {ons exs : List Held} → Stand E t ons exs → (c : PacketCall) → Follows E c ons exs (packet_words E c t)
  call_follows st (Take asked) = take_follows asked st
  call_follows st (HandBack s span) = back_follows span st s
  call_follows st (Fill s span new) = fill_follows span new st s
  call_follows st (Read s span) = read_follows st s span
  call_follows st (LengthOf s span) = length_follows st s span
  call_follows st (ReportOf s) = report_follows st s
