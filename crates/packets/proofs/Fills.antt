-- A fill in one store: what it answers, and that the bytes and the list go on agreeing. Assumes nothing.
use mathlib.Core.Path.{◌≡◌, refl, sym, ap, subst, ◌∙◌}
use mathlib.Core.Logic.{inl, inr, ◌≢◌}
use mathlib.Core.Option.{Option, none, some}
use mathlib.Core.List.{List}
use Prim.Native.Nat.{ℕ, ◌+◌, ◌≤◌, ◌<◌}
use native.Mathlib.Omega.{arith}
use lib.ListN.{length}
use borrow.Author.Tests.{lt-ltb, le-ltb}
use Rattle.basics.proofs.Clash.{clash}
use Rattle.basics.proofs.Decided.{Below, below, beyond, below?}
use Rattle.ledger.specs.Ledger.{Ledger, Answer, done, length_is, refused, Stacks}
use Rattle.ledger.specs.Calls.{Token}
use Rattle.ledger.specs.Spans.{Disjoint}
use Rattle.tables.specs.Words.{Edition}
use Rattle.parts.specs.Bytes.{part_of, over}
use Rattle.packets.specs.Stores.{Kept, with_bytes}
use Rattle.packets.specs.OneStore.{filled_by, length_in, fill_in}
use Rattle.packets.specs.Shelf.{Held, contents, refilled, refill}
use Rattle.parts.proofs.Meanings.{part_length, over_length}
use Rattle.packets.proofs.Parts.{part_stays, part_written}
use Rattle.packets.proofs.LiveSpans.{LiveAt, live_inside, live_apart}
use Rattle.packets.proofs.Listed.{Compared, one_span, two_spans, compared}
use Rattle.packets.proofs.Listed.{refilled_its_own, refilled_others, refilled_distinct}
use Rattle.packets.proofs.Stood.{Agrees, listed, not_listed, Shelved, Stood, not_there, there}
use Rattle.packets.proofs.OneStore.{LengthCase, tells, tells_not, FillCase, fills, too_many, fills_not}
use Rattle.packets.proofs.Lengths.{length_case}

module _ (E : Edition) where
  -- ---- a fill
  fill_from : (k : Kept) (span : Token) (new : List ℕ) (a : Answer) → length_in E span k ≡ a
      → fill_in E span new k ≡ ((filled_by a span.offset new k.bytes).0, with_bytes k (filled_by a span.offset new k.bytes).1)
  unfolding fill_in
  fill_from k span new a e =
      ap (λ (x : Answer). ((filled_by x span.offset new k.bytes).0, with_bytes k (filled_by x span.offset new k.bytes).1)) e

  -- the bytes are written, and the list has them
  filled_shelved : {k : Kept} {l : Ledger Stacks} {held : List Held} (span : Token) (new bytes : List ℕ) (n : ℕ) → Shelved E k l held
      → contents span held ≡ some bytes → LiveAt span n l → bytes ≡ part_of k.bytes span.offset n → length new ≤ n
      → Shelved E (with_bytes k (over k.bytes span.offset new)) l (refill span new held)
  filled_shelved {k} {l} {held} span new bytes n s is a e few = record {
    sound = s.sound;
    long_enough = omega (arith, s.long_enough, over_length k.bytes span.offset new (omega (arith, fits)));
    agrees = λ other. by_span other (compared span other);
    distinct = refilled_distinct span new held s.distinct;
  }
    where
      fits : span.offset + n ≤ length k.bytes
      fits = omega (arith, live_inside l s.sound.well span n a, s.long_enough)

      fewer : (p m : ℕ) → Disjoint span.offset n p m → Disjoint span.offset (length new) p m
      fewer p m (inl h) = inl (omega arith)
      fewer p m (inr h) = inr h

      stays : {c : Option (List ℕ)} (other : Token) → span ≢ other → Agrees k.bytes l other c
          → Agrees (over k.bytes span.offset new) l other c
      stays other differs (listed m b f) = listed m b (f ∙ sym (part_stays k.bytes span.offset new other.offset m (omega (arith, fits))
          (fewer other.offset m (live_apart l s.sound.well span other n m differs a b))))
      stays other differs (not_listed h) = not_listed h

      by_span : (other : Token) → Compared span other → Agrees (over k.bytes span.offset new) l other (contents other (refill span new held))
      by_span other (one_span p f) =
          subst (λ (x : Token). Agrees (over k.bytes span.offset new) l x (contents x (refill span new held))) p
          (subst (Agrees (over k.bytes span.offset new) l span) (sym (refilled_its_own span new bytes held is))
          (listed n a (ap (λ (b : List ℕ). refilled new b) e ∙ sym (part_written k.bytes span.offset new n fits few))))
      by_span other (two_spans p f) =
          subst (Agrees (over k.bytes span.offset new) l other) (sym (refilled_others span other new held p)) (stays other p (s.agrees other))

  fill_done_is : (k : Kept) (span : Token) (new : List ℕ) (n : ℕ) → length_in E span k ≡ length_is n → length new ≤ n
      → fill_in E span new k ≡ (done, with_bytes k (over k.bytes span.offset new))
  unfolding filled_by
  fill_done_is k span new n e few = fill_from k span new (length_is n) e ∙ rw (le-ltb n (length new) few) refl

  fill_17_is : (k : Kept) (span : Token) (new : List ℕ) (n : ℕ) → length_in E span k ≡ length_is n → n < length new
      → fill_in E span new k ≡ (refused 17, k)
  unfolding filled_by
  fill_17_is k span new n e many = fill_from k span new (length_is n) e ∙ rw (lt-ltb n (length new) many) refl

  fill_refused_is : (k : Kept) (span : Token) (new : List ℕ) (c : ℕ) → length_in E span k ≡ refused c → fill_in E span new k ≡ (refused c, k)
  unfolding filled_by
  fill_refused_is k span new c e = fill_from k span new (refused c) e

  -- a packet that is listed is out of a store that is there
  filled_stood : {k : Kept} {held : List Held} (span : Token) (new bytes : List ℕ) → Stood E k held → contents span held ≡ some bytes
      → length new ≤ length bytes → Stood E (with_bytes k (over k.bytes span.offset new)) (refill span new held)
  unfolding contents
  filled_stood span new bytes (not_there c s e) is few = clash (cc (is, ap (λ (h : List Held). contents span h) e))
  filled_stood {k} {held} span new bytes (there l s) is few = go (contents span held) is (s.agrees span)
    where
      go : (c : Option (List ℕ)) → c ≡ some bytes → Agrees k.bytes l span c
          → Stood E (with_bytes k (over k.bytes span.offset new)) (refill span new held)
      go (some now) eq (listed n a e) =
          let now-is : now ≡ bytes = cc in
          let its : bytes ≡ part_of k.bytes span.offset n = sym now-is ∙ e in
          let many : length bytes ≡ n =
          ap length its ∙ part_length k.bytes span.offset n (omega (arith, live_inside l s.sound.well span n a, s.long_enough)) in
          there l (filled_shelved span new bytes n s is a its (omega (arith, many)))
      go none eq (not_listed h) = clash (cc)

  pub fill_case : {k : Kept} {held : List Held} → Stood E k held → (span : Token) (new : List ℕ) → FillCase E k held span new (fill_in E span new k)
  fill_case {k} {held} stood span new = go refl (length_case E stood span)
    where
      by_length : (bytes : List ℕ) (n : ℕ) → length_in E span k ≡ length_is n → contents span held ≡ some bytes → n ≡ length bytes
          → Below n (length new) → FillCase E k held span new (fill_in E span new k)
      by_length bytes n e is many (below h f) =
          subst (FillCase E k held span new) (sym (fill_17_is k span new n e h)) (too_many is (omega arith))
      by_length bytes n e is many (beyond h f) =
          subst (FillCase E k held span new) (sym (fill_done_is k span new n e h)) (fills is (omega arith) (filled_stood span new bytes stood is (omega arith)))

      go : {a : Answer} → length_in E span k ≡ a → LengthCase k held span a → FillCase E k held span new (fill_in E span new k)
      go e (tells {bytes = bytes} n is many its) = by_length bytes n e is many (below? n (length new))
      go e (tells_not c is why) =
          subst (FillCase E k held span new) (sym (fill_refused_is k span new c e)) (fills_not c is why)
