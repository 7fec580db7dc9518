-- A hand-back to one store: what it answers, and that the list without that packet agrees with the store it leaves. Assumes nothing.
use mathlib.Core.Path.{◌≡◌, refl, sym, ap, subst, ◌∙◌}
use mathlib.Core.Logic.{◌⊎◌, inl, inr, ◌≢◌}
use mathlib.Core.Option.{Option, none}
use mathlib.Core.List.{List}
use Prim.Native.Nat.{ℕ}
use native.Mathlib.Omega.{arith}
use Rattle.ledger.specs.Ledger.{Ledger, Answer, done, refused, by_class, Stacks}
use Rattle.ledger.specs.Calls.{Token, HandBack, answer}
use Rattle.tables.specs.Words.{Words, Edition}
use Rattle.tables.specs.Calls.{answer_words}
use Rattle.tables.proofs.Claims as tables
use Rattle.packets.specs.Stores.{Kept, with_words}
use Rattle.packets.specs.OneStore.{hand_back_in}
use Rattle.packets.specs.Shelf.{Held, contents, strike}
use Rattle.packets.proofs.LiveSpans.{LiveAt, back_done}
use Rattle.packets.proofs.LiveSpans.{Returning, back_returns}
use Rattle.packets.proofs.Listed.{Compared, one_span, two_spans, compared, others_listed, struck_gone, struck_distinct}
use Rattle.packets.proofs.Stood.{Agrees, listed, not_listed, unlisted, is_listed, Shelved, Stood, not_there, there}
use Rattle.packets.proofs.OneStore.{NotOut, BackCase, gives, gives_not}
use Rattle.packets.proofs.OneStore.{six}

module _ (E : Edition) where
  -- ---- a hand-back
  back_from : (k : Kept) (span : Token) (a : Answer) → (answer_words E (HandBack span) k.words).0 ≡ a
      → hand_back_in E span k ≡ (a, with_words k (answer_words E (HandBack span) k.words).1)
  unfolding hand_back_in
  back_from k span a e = λ i. (e i, with_words k (answer_words E (HandBack span) k.words).1)

  back_refused : {k : Kept} {held : List Held} (span : Token) (c : ℕ) → (answer_words E (HandBack span) k.words).0 ≡ refused c
      → contents span held ≡ none → NotOut k c → BackCase E k held span (hand_back_in E span k)
  back_refused {k} {held} span c e none_held why =
      let words_are = (tables.claims E).refused_kept (HandBack span) k.words c e in
      let outcome : hand_back_in E span k ≡ (refused c, k) =
      back_from k span (refused c) e ∙ (λ i. (refused c, with_words k (words_are i))) in
      subst (BackCase E k held span) (sym outcome) (gives_not c none_held why)

  returned_shelved : {k : Kept} {l : Ledger Stacks} {held : List Held} (span : Token) (n : ℕ) → Shelved E k l held → LiveAt span n l
      → Shelved E (with_words k (answer_words E (HandBack span) k.words).1)
      (answer by_class k.words.size k.words.count (HandBack span) l).1 (strike span held)
  returned_shelved {k} {l} {held} span n s a = record {
    sound = ((tables.claims E).call_sound k.words l s.sound (HandBack span)).1;
    long_enough = omega (arith, s.long_enough, ((tables.claims E).not_written (HandBack span) k.words).size_is);
    agrees = λ other. by_span other (compared span other);
    distinct = struck_distinct span held s.distinct;
  }
    where
      next : Ledger Stacks
      next = (answer by_class k.words.size k.words.count (HandBack span) l).1

      moves : Returning span l next
      moves = back_returns s.sound.room.tables.count_low l s.sound.well span n a

      stays : {c : Option (List ℕ)} (other : Token) → span ≢ other → Agrees k.bytes l other c → Agrees k.bytes next other c
      stays other differs (listed m b f) = listed m (moves.others_stay other m differs b) f
      stays other differs (not_listed h) = not_listed (λ m b. h m (moves.no_more other m b))

      by_span : (other : Token) → Compared span other → Agrees k.bytes next other (contents other (strike span held))
      by_span other (one_span p f) =
          subst (λ (x : Token). Agrees k.bytes next x (contents x (strike span held))) p
          (subst (Agrees k.bytes next span) (sym (struck_gone span held s.distinct)) (not_listed moves.is_none))
      by_span other (two_spans p f) = subst (Agrees k.bytes next other) (sym (others_listed span other held p)) (stays other p (s.agrees other))

  five_or_eight : (k : Kept) {c : ℕ} → (c ≡ 5) ⊎ (c ≡ 8) → NotOut k c
  five_or_eight k (inl e) = inl e
  five_or_eight k (inr e) = inr (inl e)

  pub back_case : {k : Kept} {held : List Held} → Stood E k held → (span : Token) → BackCase E k held span (hand_back_in E span k)
  unfolding contents
  back_case {k} {held} (not_there c s e) span =
      back_refused span 6 (ap (λ (x : Answer × Words). x.0) (six E (HandBack span) k c)) (ap (λ (h : List Held). contents span h) e) (inr (inr (refl, c)))
  back_case {k} {held} (there l s) span = elim (back_done l s.sound.well span) [
    | inl t ↦ back_refused span t.0 (told ∙ t.3) (unlisted (s.agrees span) t.2) (five_or_eight k t.1)
    | inr t ↦ let out = is_listed (s.agrees span) t.1 in
        subst (BackCase E k held span) (sym (back_from k span done (told ∙ t.2))) (gives out.1 (there _ (returned_shelved span t.0 s t.1)))
  ]
    where
      told : (answer_words E (HandBack span) k.words).0 ≡ (answer by_class k.words.size k.words.count (HandBack span) l).0
      told = ((tables.claims E).call_sound k.words l s.sound (HandBack span)).0
