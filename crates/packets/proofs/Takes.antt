-- A take from one store: what it answers, and that the list with the new packet, all 255, agrees with the store it leaves. Assumes nothing.
use mathlib.Core.Path.{◌≡◌, sym, ap, subst, ◌∙◌}
use mathlib.Core.Logic.{inl, inr, ◌≢◌}
use mathlib.Core.Option.{Option, none}
use mathlib.Core.List.{List, ◌∷◌}
use Prim.Native.Nat.{ℕ, ◌+◌, ◌≤◌}
use native.Mathlib.Omega.{arith}
use lib.ListN.{length}
use Rattle.ledger.specs.Ledger.{Ledger, Answer, granted, refused, by_class, Stacks}
use Rattle.ledger.specs.Calls.{Request, Token, span_of, Take, answer}
use Rattle.tables.specs.Words.{Words, Edition}
use Rattle.tables.specs.Calls.{answer_words}
use Rattle.tables.proofs.Claims as tables
use Rattle.parts.specs.Bytes.{not_heard, marked}
use Rattle.packets.specs.Stores.{Kept, with_words}
use Rattle.packets.specs.OneStore.{fresh_bytes, take_in}
use Rattle.packets.specs.Shelf.{Held, contents}
use Rattle.packets.proofs.Parts.{marked_length, marked_stays, marked_all}
use Rattle.packets.proofs.LiveSpans.{take_done}
use Rattle.packets.proofs.LiveSpans.{Granting, take_grants}
use Rattle.packets.proofs.Listed.{Compared, one_span, two_spans, compared, its_own, of_another}
use Rattle.packets.proofs.Stood.{Agrees, listed, not_listed, unlisted, Shelved, Stood, not_there, there}
use Rattle.packets.proofs.OneStore.{TakeCase, takes, takes_not}
use Rattle.packets.proofs.OneStore.{never_nine, six}

module _ (E : Edition) where
  -- ---- a take
  take_from_lem : (k : Kept) (asked : Request) (a : Answer) → (answer_words E (Take asked) k.words).0 ≡ a
      → take_in E asked k
      ≡ (a, record { words = (answer_words E (Take asked) k.words).1; bytes = fresh_bytes a asked.size k.bytes })
  unfolding take_in
  take_from_lem k asked a e =
      λ i. (e i, record { words = (answer_words E (Take asked) k.words).1; bytes = fresh_bytes (e i) asked.size k.bytes })

  take_refused : {k : Kept} {held : List Held} (asked : Request) (c : ℕ) → (answer_words E (Take asked) k.words).0 ≡ refused c
      → TakeCase E k held asked (take_in E asked k)
  unfolding fresh_bytes
  take_refused {k} {held} asked c e =
      let words_are = (tables.claims E).refused_kept (Take asked) k.words c e in
      let outcome : take_in E asked k ≡ (refused c, k) =
      take_from_lem k asked (refused c) e ∙ (λ i. (refused c, with_words k (words_are i))) in
      subst (TakeCase E k held asked) (sym outcome) (takes_not c (never_nine E (Take asked) k.words c e))

  granted_is : (k : Kept) (asked : Request) (o r : ℕ) → (answer_words E (Take asked) k.words).0 ≡ granted o r
      → take_in E asked k
      ≡ (granted o r, record { words = (answer_words E (Take asked) k.words).1; bytes = marked k.bytes o asked.size })
  unfolding fresh_bytes
  granted_is k asked o r e = take_from_lem k asked (granted o r) e

  module _ {k : Kept} {l : Ledger Stacks} {held : List Held} (asked : Request) (o r : ℕ) (s : Shelved E k l held)
      (e : (answer_words E (Take asked) k.words).0 ≡ granted o r) where
    after_take : Ledger Stacks
    after_take = (answer by_class k.words.size k.words.count (Take asked) l).1

    taking : Granting asked.size (span_of o r) l after_take
    unfolding after_take
    taking =
        take_grants s.sound.room.tables.count_low l s.sound.well asked o r
        (sym ((tables.claims E).call_sound k.words l s.sound (Take asked)).0 ∙ e)

    was_not_out : contents (span_of o r) held ≡ none
    was_not_out = unlisted (s.agrees (span_of o r)) taking.was_none

    room_for : o + asked.size ≤ length k.bytes
    room_for = omega (arith, (tables.claims E).grant_inside k.words asked o r e, s.long_enough)

    granted_shelved : Shelved E record { words = (answer_words E (Take asked) k.words).1; bytes = marked k.bytes o asked.size } after_take
        (record { span = span_of o r; bytes = not_heard asked.size } ∷ held)
    unfolding after_take
    granted_shelved = record {
      sound = ((tables.claims E).call_sound k.words l s.sound (Take asked)).1;
      long_enough = omega (
        arith,
        s.long_enough,
        ((tables.claims E).not_written (Take asked) k.words).size_is,
        marked_length k.bytes o asked.size room_for,
      );
      agrees = λ other. by_span other (compared (span_of o r) other);
      distinct = (was_not_out, s.distinct);
    }
      where
        fresh : Held
        fresh = record { span = span_of o r; bytes = not_heard asked.size }

        now : List ℕ
        now = marked k.bytes o asked.size

        stays : {c : Option (List ℕ)} (other : Token) → span_of o r ≢ other → Agrees k.bytes l other c → Agrees now after_take other c
        stays other differs (listed m b f) = listed m (taking.others_stay other m b)
            (f ∙ sym (marked_stays k.bytes o asked.size other.offset m room_for (taking.alone other m b)))
        stays other differs (not_listed h) = not_listed (λ m b. h m (taking.no_more other m (λ p. differs (sym p)) b))

        by_span : (other : Token) → Compared (span_of o r) other → Agrees now after_take other (contents other (fresh ∷ held))
        by_span other (one_span p f) =
            subst (λ (x : Token). Agrees now after_take x (contents x (fresh ∷ held))) p
            (subst (Agrees now after_take (span_of o r)) (sym (its_own (span_of o r) (not_heard asked.size) held))
            (listed asked.size taking.is_out (sym (marked_all k.bytes o asked.size room_for))))
        by_span other (two_spans p f) =
            subst (Agrees now after_take other) (sym (of_another fresh other held p)) (stays other p (s.agrees other))

  pub take_case : {k : Kept} {held : List Held} → Stood E k held → (asked : Request) → TakeCase E k held asked (take_in E asked k)
  take_case {k} {held} (not_there c s e) asked = take_refused asked 6 (ap (λ (x : Answer × Words). x.0) (six E (Take asked) k c))
  take_case {k} {held} (there l s) asked = elim (take_done l s.sound.well asked) [
    | inl t ↦ take_refused asked t.0 (told ∙ t.1)
    | inr t ↦ subst (TakeCase E k held asked) (sym (granted_is k asked t.0 t.1 (told ∙ t.2)))
        (takes t.0 t.1 (was_not_out asked t.0 t.1 s (told ∙ t.2)) (there _ (granted_shelved asked t.0 t.1 s (told ∙ t.2))))
  ]
    where
      told : (answer_words E (Take asked) k.words).0 ≡ (answer by_class k.words.size k.words.count (Take asked) l).0
      told = ((tables.claims E).call_sound k.words l s.sound (Take asked)).0
