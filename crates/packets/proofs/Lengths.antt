-- The length of a packet, asked of one store: told of one that is out, refused of one that is not. Assumes nothing.
use mathlib.Core.Path.{◌≡◌, refl, sym, ap, subst, ◌∙◌}
use mathlib.Core.Logic.{inl, inr}
use mathlib.Core.Option.{Option, none, some}
use mathlib.Core.List.{List}
use Prim.Native.Nat.{ℕ, ◌+◌, ◌≤◌}
use native.Mathlib.Omega.{arith}
use lib.ListN.{length}
use borrow.Author.Tests.{le-ltb}
use Rattle.ledger.specs.Ledger.{Answer, length_is, refused, by_class}
use Rattle.ledger.specs.Calls.{Token, SizeOf, Ask, answer}
use Rattle.tables.specs.Words.{Words, Edition}
use Rattle.tables.specs.Calls.{answer_words}
use Rattle.tables.proofs.Claims as tables
use Rattle.packets.specs.Stores.{Kept}
use Rattle.packets.specs.OneStore.{inside_size, shown_by, length_in, read_in}
use Rattle.packets.specs.Shelf.{Held, contents}
use Rattle.parts.proofs.Meanings.{part_length}
use Rattle.packets.proofs.LiveSpans.{live_inside, told_length, told_none}
use Rattle.packets.proofs.Stood.{Agrees, listed, not_listed, Stood, not_there, there}
use Rattle.packets.proofs.OneStore.{NotOut, LengthCase, tells, tells_not}
use Rattle.packets.proofs.OneStore.{six}

module _ (E : Edition) where
  -- ---- the length of a packet
  length_from : (k : Kept) (span : Token) (a : Answer) → (answer_words E (Ask (SizeOf span)) k.words).0 ≡ a
      → length_in E span k ≡ inside_size k.words.size span.offset a
  unfolding length_in
  length_from k span a e = ap (λ (x : Answer). inside_size k.words.size span.offset x) e

  inside_told : (size o n : ℕ) → o + n ≤ size → inside_size size o (length_is n) ≡ length_is n
  unfolding inside_size
  inside_told size o n h = rw (le-ltb size (o + n) h) refl

  inside_refused : (size o c : ℕ) → inside_size size o (refused c) ≡ refused c
  unfolding inside_size
  inside_refused size o c = refl

  refused_length : {k : Kept} {held : List Held} {span : Token} (c : ℕ) → (answer_words E (Ask (SizeOf span)) k.words).0 ≡ refused c
      → contents span held ≡ none → NotOut k c → LengthCase k held span (length_in E span k)
  refused_length {k} {held} {span} c e none_held why =
      subst (LengthCase k held span) (sym (length_from k span (refused c) e ∙ inside_refused k.words.size span.offset c))
      (tells_not c none_held why)

  pub length_case : {k : Kept} {held : List Held} → Stood E k held → (span : Token) → LengthCase k held span (length_in E span k)
  unfolding contents
  length_case {k} {held} (not_there c s e) span =
      refused_length 6 (ap (λ (x : Answer × Words). x.0) (six E (Ask (SizeOf span)) k c)) (ap (λ (h : List Held). contents span h) e) (inr (inr (refl, c)))
  length_case {k} {held} (there l s) span = go (contents span held) refl (s.agrees span)
    where
      told : (answer_words E (Ask (SizeOf span)) k.words).0 ≡ (answer by_class k.words.size k.words.count (Ask (SizeOf span)) l).0
      told = ((tables.claims E).call_sound k.words l s.sound (Ask (SizeOf span))).0

      go : (c : Option (List ℕ)) → contents span held ≡ c → Agrees k.bytes l span c → LengthCase k held span (length_in E span k)
      go (some bytes) is (listed n a e) =
          let fits : span.offset + n ≤ k.words.size = live_inside l s.sound.well span n a in
          let many : n ≡ length bytes =
          sym (ap length e ∙ part_length k.bytes span.offset n (omega (arith, fits, s.long_enough))) in
          subst (LengthCase k held span)
          (sym (length_from k span (length_is n) (told ∙ told_length l s.sound.well span n a)
          ∙ inside_told k.words.size span.offset n fits))
          (tells n is many e)
      go none is (not_listed h) = elim (told_none l s.sound.well span h) [
        | inl e ↦ refused_length 5 (told ∙ e) is (inl refl)
        | inr e ↦ refused_length 8 (told ∙ e) is (inr (inl refl))
      ]

  -- ---- a read
  pub read_from : (k : Kept) (span : Token) (a : Answer) → length_in E span k ≡ a → read_in E span k ≡ shown_by a span.offset k.bytes
  unfolding read_in
  read_from k span a e = ap (λ (x : Answer). shown_by x span.offset k.bytes) e
