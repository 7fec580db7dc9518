-- On any words: 17 exactly if the packet has a length and it is less than what is filled in; and no length passes the store's bytes. Assumes nothing.
use mathlib.Core.Path.{◌≡◌, refl, sym, ap, ◌∙◌}
use mathlib.Core.Logic.{◌↔◌, inl, inr, ◌≢◌}
use mathlib.Core.Bool.{Bool, true, false, cond}
use mathlib.Core.List.{List}
use Prim.Native.Nat.{ℕ, ◌+◌, ◌≤◌, ◌<◌}
use native.Mathlib.Omega.{arith}
use lib.Dec.{ltb}
use lib.ListN.{length}
use borrow.Author.Tests.{lt-ltb}
use Rattle.basics.proofs.Clash.{clash}
use Rattle.basics.proofs.Decided.{Below, below, beyond, below?}
use Rattle.ledger.specs.Ledger.{Answer, granted, done, length_is, reported, classes, refused}
use Rattle.ledger.specs.Calls.{Token, SizeOf, Ask}
use Rattle.tables.specs.Words.{Edition}
use Rattle.tables.specs.Claims.{OneOf, may_give}
use Rattle.tables.proofs.Claims as tables
use Rattle.parts.specs.Bytes.{over}
use Rattle.packets.specs.declared.Store.{Store}
use Rattle.packets.specs.declared.Store.TheVariants.{OnChip, External}
use Rattle.packets.specs.Stores.{Kept, Two, at}
use Rattle.packets.specs.OneStore.{inside_size, filled_by, length_in, fill_in}
use Rattle.packets.specs.Calls.{Fill, LengthOf, Answered, plain, too_short, nine, on, packet_words}
use Rattle.packets.specs.Claims.{Short}
use Rattle.packets.proofs.Steps.{both_long, length_in_size}
use Rattle.packets.proofs.ShortStores.{not_found, long_found}

plain_of : {a b : Answer} → plain a ≡ plain b → a ≡ b
plain_of e = cc

number_of : (j k : ℕ) → refused j ≡ refused k → j ≡ k
number_of j k e = cc

-- ---- no question for a length gives 17
inside_17 : (size o : ℕ) (a : Answer) → a ≢ refused 17 → inside_size size o a ≢ refused 17
unfolding inside_size
inside_17 size o (granted p r) h e = clash (cc)
inside_17 size o done h e = clash (cc)
inside_17 size o (length_is n) h e = go (ltb size (o + n)) e
  where
    go : (b : Bool) → cond b (refused 6) (length_is n) ≡ refused 17 → ⊥
    go true f = omega (arith, number_of 6 17 f)
    go false f = clash (cc)
inside_17 size o (reported n m) h e = clash (cc)
inside_17 size o (classes rows) h e = clash (cc)
inside_17 size o (refused k) h e = h e

-- ---- so a fill gives it where there is a length, and it is less
fill_17 : (a : Answer) (o : ℕ) (new bytes : List ℕ) → a ≢ refused 17 → (filled_by a o new bytes).0 ≡ refused 17
    → (n : ℕ) × (a ≡ length_is n) × (n < length new)
unfolding filled_by
fill_17 (granted p r) o new bytes h e = clash (cc)
fill_17 done o new bytes h e = clash (cc)
fill_17 (length_is n) o new bytes h e = go (below? n (length new))
  where
    go : Below n (length new) → (m : ℕ) × (length_is n ≡ length_is m) × (m < length new)
    go (below less z) = (n, refl, less)
    go (beyond more z) =
        let ended : done ≡ refused 17 = sym (ap (λ (b : Bool). (cond {A = Answer × List ℕ} b (refused 17, bytes) (done, over bytes o new)).0) z) ∙ e in
        clash (cc)
fill_17 (reported n m) o new bytes h e = clash (cc)
fill_17 (classes rows) o new bytes h e = clash (cc)
fill_17 (refused k) o new bytes h e = absurd (h e)

less_17 : (n o : ℕ) (new bytes : List ℕ) → n < length new → (filled_by (length_is n) o new bytes).0 ≡ refused 17
unfolding filled_by
less_17 n o new bytes h = ap (λ (b : Bool). (cond {A = Answer × List ℕ} b (refused 17, bytes) (done, over bytes o new)).0) (lt-ltb n (length new) h)

-- ---- past the test for 9
past : (t : Two) (outcome : Answered × Two) (a : Answer) → a ≢ refused 9 → (nine (too_short t) t outcome).0 ≡ plain a
    → (too_short t ≡ false) × (outcome.0 ≡ plain a)
past t outcome a h e = go (too_short t) refl e
  where
    go : (b : Bool) → too_short t ≡ b → (nine b t outcome).0 ≡ plain a → (too_short t ≡ false) × (outcome.0 ≡ plain a)
    go true z f = absurd (h (sym (plain_of f)))
    go false z f = (z, f)

module _ (E : Edition) where
  length_17 : (span : Token) (k : Kept) → length_in E span k ≢ refused 17
  unfolding length_in
  length_17 span k =
      inside_17 k.words.size span.offset _ (λ e. go 17 ((tables.claims E).numbers (Ask (SizeOf span)) k.words 17 e) refl)
    where
      go : (n : ℕ) → OneOf (may_give (Ask (SizeOf span))) n → n ≢ 17
      go n (inl e) f = omega arith
      go n (inr (inl e)) f = omega arith
      go n (inr (inr (inl e))) f = omega arith
      go n (inr (inr (inr (inl e)))) f = omega arith
      go n (inr (inr (inr (inr e)))) f = e

  pub seventeen_exactly : (s : Store) (span : Token) (new : List ℕ) (t : Two)
      → ((packet_words E (Fill s span new) t).0 ≡ plain (refused 17))
      ↔ ((¬ Short t) × ((n : ℕ) × (length_in E span (at s t) ≡ length_is n) × (n < length new)))
  unfolding packet_words fill_in
  seventeen_exactly s span new t = (
    λ e.
        let so = past t (on s t (fill_in E span new (at s t))) (refused 17) (λ f. absurd (omega (arith, number_of 17 9 f))) e in
        (not_found t so.0, fill_17 (length_in E span (at s t)) span.offset new (at s t).bytes (length_17 span (at s t)) (plain_of so.1)),
    λ h.
        ap (λ (b : Bool). (nine b t (on s t (fill_in E span new (at s t)))).0) (long_found t h.0)
        ∙ ap plain
        (ap (λ (a : Answer). (filled_by a span.offset new (at s t).bytes).0) h.1.1 ∙ less_17 h.1.0 span.offset new (at s t).bytes h.1.2),
  )

  -- ---- no length passes the bytes
  pub length_inside : (s : Store) (span : Token) (t : Two) (n : ℕ) → (packet_words E (LengthOf s span) t).0 ≡ plain (length_is n)
      → span.offset + n ≤ length (at s t).bytes
  unfolding packet_words
  length_inside s span t n e =
      let so = past t (plain (length_in E span (at s t)), t) (length_is n) (λ f. clash (cc)) e in
      let both = both_long (length t.on_chip.bytes) t.on_chip.words.size (length t.external.bytes) t.external.words.size so.0 in
      let long : (named : Store) → (at named t).words.size ≤ length (at named t).bytes = λ named. elim named as (λ (named : Store). (at named t).words.size ≤ length (at named t).bytes) [ OnChip ↦ both.0 | External ↦ both.1 ] in
      omega (arith, length_in_size E span (at s t) n (plain_of so.1), long s)
