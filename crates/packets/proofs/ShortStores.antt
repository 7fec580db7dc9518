-- 9 is given exactly if a store is shorter than its allocator's size, on any words, and a read then shows nothing. Assumes nothing.
use mathlib.Core.Path.{◌≡◌, refl, ap, ◌∙◌}
use mathlib.Core.Logic.{◌↔◌, inl, inr, ◌≢◌}
use mathlib.Core.Bool.{Bool, true, false, ◌||◌, cond}
use mathlib.Core.List.{List, []}
use Prim.Native.Nat.{ℕ, ◌+◌}
use native.Mathlib.Omega.{arith}
use lib.Dec.{ltb}
use lib.ListN.{length}
use borrow.Author.Tests.{lt-ltb}
use Rattle.basics.proofs.Clash.{clash}
use Rattle.basics.proofs.Decided.{Below, below, beyond, below?}
use Rattle.ledger.specs.Ledger.{Answer, granted, done, length_is, reported, classes, refused}
use Rattle.ledger.specs.Calls.{Token, SizeOf, Report, Ask}
use Rattle.ledger.specs.Calls as ledger
use Rattle.tables.specs.Words.{Edition}
use Rattle.tables.specs.Calls.{answer_words}
use Rattle.parts.specs.Bytes.{over}
use Rattle.packets.specs.declared.Store.{Store}
use Rattle.packets.specs.Stores.{Kept, Two, at}
use Rattle.packets.specs.OneStore.{inside_size, filled_by, take_in, hand_back_in, length_in, fill_in, read_in}
use Rattle.packets.specs.Calls.{PacketCall, Take, HandBack, Fill, Read, LengthOf, ReportOf, Answered, shows, plain}
use Rattle.packets.specs.Calls.{too_short, nine, goes_on, from_external, externally, after_first, take_from, packet_words}
use Rattle.packets.specs.Claims.{Short}
use Rattle.packets.proofs.OneStore.{never_nine}

-- ---- the test for 9 finds what it is to find
pub short_found : (t : Two) → Short t → too_short t ≡ true
short_found t (inl h) =
    ap (λ (b : Bool). b || ltb (length t.external.bytes) t.external.words.size) (lt-ltb (length t.on_chip.bytes) t.on_chip.words.size h)
short_found t (inr h) =
    ap (λ (b : Bool). ltb (length t.on_chip.bytes) t.on_chip.words.size || b)
    (lt-ltb (length t.external.bytes) t.external.words.size h)
    ∙ whatever (ltb (length t.on_chip.bytes) t.on_chip.words.size)
  where
    whatever : (b : Bool) → (b || true) ≡ true
    whatever true = refl
    whatever false = refl

pub found_short : (t : Two) → too_short t ≡ true → Short t
found_short t e =
    go (below? (length t.on_chip.bytes) t.on_chip.words.size) (below? (length t.external.bytes) t.external.words.size)
  where
    go : Below (length t.on_chip.bytes) t.on_chip.words.size → Below (length t.external.bytes) t.external.words.size → Short t
    go (below h z) q = inl h
    go (beyond h z) (below g y) = inr g
    go (beyond h z) (beyond g y) = clash (cc)

pub not_found : (t : Two) → too_short t ≡ false → ¬ Short t
not_found t e short = clash (cc (short_found t short))

pub long_found : (t : Two) → ¬ Short t → too_short t ≡ false
long_found t none-short = go (too_short t) refl
  where
    go : (b : Bool) → too_short t ≡ b → b ≡ false
    go true e = absurd (none-short (found_short t e))
    go false e = refl

-- ---- past the test no call gives 9
refused_of : (j k : ℕ) → plain (refused j) ≡ plain (refused k) → refused j ≡ refused k
refused_of j k e = cc

number_of : (j k : ℕ) → refused j ≡ refused k → j ≡ k
number_of j k e = cc

outside_nine : (b : Answer) → b ≢ refused 9 → from_external b ≢ plain (refused 9)
outside_nine (granted o r) h e = clash (cc)
outside_nine done h e = clash (cc)
outside_nine (length_is n) h e = clash (cc)
outside_nine (reported n m) h e = clash (cc)
outside_nine (classes rows) h e = clash (cc)
outside_nine (refused k) h e = h (refused_of k 9 e)

take_nine : (a : Answer) (first beside : Kept) (second : Answer × Kept) → a ≢ refused 9 → second.0 ≢ refused 9
    → (after_first a first beside second).0 ≢ plain (refused 9)
take_nine (granted o r) first beside second h g e = clash (cc)
take_nine done first beside second h g e = clash (cc)
take_nine (length_is n) first beside second h g e = clash (cc)
take_nine (reported n m) first beside second h g e = clash (cc)
take_nine (classes rows) first beside second h g e = clash (cc)
take_nine (refused k) first beside second h g e = go (goes_on k) e
  where
    go : (goes : Bool)
        → (cond {A = Answered × Two} goes ((externally second).0, record { on_chip = first; external = (externally second).1 })
        (plain (refused k), record { on_chip = first; external = beside })).0 ≡ plain (refused 9)
        → ⊥
    go true f = outside_nine second.0 g f
    go false f = h (refused_of k 9 f)

inside_nine : (size o : ℕ) (a : Answer) → a ≢ refused 9 → inside_size size o a ≢ refused 9
unfolding inside_size
inside_nine size o (granted p r) h e = clash (cc)
inside_nine size o done h e = clash (cc)
inside_nine size o (length_is n) h e = go (ltb size (o + n)) e
  where
    go : (b : Bool) → cond b (refused 6) (length_is n) ≡ refused 9 → ⊥
    go true f = omega (arith, number_of 6 9 f)
    go false f = clash (cc)
inside_nine size o (reported n m) h e = clash (cc)
inside_nine size o (classes rows) h e = clash (cc)
inside_nine size o (refused k) h e = h e

fill_nine : (a : Answer) (o : ℕ) (new bytes : List ℕ) → a ≢ refused 9 → (filled_by a o new bytes).0 ≢ refused 9
unfolding filled_by
fill_nine (granted p r) o new bytes h e = clash (cc)
fill_nine done o new bytes h e = clash (cc)
fill_nine (length_is n) o new bytes h e = go (ltb n (length new)) e
  where
    go : (b : Bool) → (cond {A = Answer × List ℕ} b (refused 17, bytes) (done, over bytes o new)).0 ≡ refused 9 → ⊥
    go true f = omega (arith, number_of 17 9 f)
    go false f = clash (cc)
fill_nine (reported n m) o new bytes h e = clash (cc)
fill_nine (classes rows) o new bytes h e = clash (cc)
fill_nine (refused k) o new bytes h e = h e

plain_of : {a b : Answer} → plain a ≡ plain b → a ≡ b
plain_of e = cc

-- of a call that is tested for 9 before all else
exactly_short : (t : Two) (outcome : Answered × Two) → outcome.0 ≢ plain (refused 9) → ((nine (too_short t) t outcome).0 ≡ plain (refused 9)) ↔ Short t
exactly_short t outcome h = (λ e. go (too_short t) refl e, λ short. ap (λ (b : Bool). (nine b t outcome).0) (short_found t short))
  where
    go : (b : Bool) → too_short t ≡ b → (nine b t outcome).0 ≡ plain (refused 9) → Short t
    go true z e = found_short t z
    go false z e = absurd (h e)

module _ (E : Edition) where
  answer_nine : (c : ledger.Call) (k : Kept) → (answer_words E c k.words).0 ≢ refused 9
  answer_nine c k e = never_nine E c k.words 9 e refl

  length_nine : (span : Token) (k : Kept) → length_in E span k ≢ refused 9
  unfolding length_in
  length_nine span k = inside_nine k.words.size span.offset _ (answer_nine (Ask (SizeOf span)) k)

  pub nine_exactly : (c : PacketCall) (t : Two) → ((s : Store) (span : Token) → c ≢ Read s span)
      → ((packet_words E c t).0 ≡ plain (refused 9)) ↔ Short t
  unfolding packet_words take_from take_in hand_back_in fill_in
  nine_exactly (Take asked) t h =
      exactly_short t _
      (take_nine _ _ t.external (take_in E asked t.external) (answer_nine (ledger.Take asked) t.on_chip)
      (answer_nine (ledger.Take asked) t.external))
  nine_exactly (HandBack s span) t h = exactly_short t _ (λ e. answer_nine (ledger.HandBack span) (at s t) (plain_of e))
  nine_exactly (Fill s span new) t h =
      exactly_short t _ (λ e. fill_nine (length_in E span (at s t)) span.offset new (at s t).bytes (length_nine span (at s t)) (plain_of e))
  nine_exactly (Read s span) t h = absurd (h s span refl)
  nine_exactly (LengthOf s span) t h = exactly_short t _ (λ e. length_nine span (at s t) (plain_of e))
  nine_exactly (ReportOf s) t h = exactly_short t _ (λ e. answer_nine (Ask Report) (at s t) (plain_of e))

  pub read_short : (s : Store) (span : Token) (t : Two) → Short t → (packet_words E (Read s span) t).0 ≡ shows []
  unfolding packet_words
  read_short s span t short = ap (λ (b : Bool). shows (cond b [] (read_in E span (at s t)))) (short_found t short)
