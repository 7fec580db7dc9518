-- A hand-back: what the region merges with, where the merged one lies, what goes onto the pile, and that no other region changes. Assumes nothing.
use mathlib.Core.Path.{◌≡◌, refl, sym, ap, ◌∙◌}
use Prim.Native.Nat.{ℕ, ◌+◌}
use native.Mathlib.Omega.{arith}
use mathlib.Core.Logic.{◌≢◌}
use mathlib.Core.List.{List, [], ◌∷◌, ◌++◌, map, reverse, reverse_aux, reverse_aux-eq, reverse-append, reverse-reverse}
use Rattle.basics.specs.Sum.{tally}
use Rattle.basics.proofs.Clash.{clash}
use Rattle.basics.proofs.Sums.{tally_reverse_aux}
use Rattle.ledger.specs.Ledger.{Engine, Ledger, Side, Region, live, free, len, rec, done, beside, merge}
use Rattle.ledger.specs.Calls.{span_of, hands_back}
use Rattle.ledger.specs.WellFormed.{WellFormed, Apart}
use Rattle.ledger.specs.Spans.{At}
use Rattle.ledger.specs.Claims.{NoneOrFree, none_there, one_there, Return}
use Rattle.ledger.proofs.Places.{Between, at_front}
use Rattle.ledger.proofs.Apart.{apart_sides}
use Rattle.ledger.proofs.KeptLine.{side_len}
use Rattle.ledger.proofs.Cases.{held}

-- ---- a side, the nearest region first: the free region that is merged, if there is one
unfoldable pub merged : List Region → List Region
merged [] = []
merged (live n r ∷ xs) = []
merged (free n r ∷ xs) = free n r ∷ []

pub none_or_free : (side : List Region) → NoneOrFree (merged side)
unfolding merged
none_or_free [] = none_there
none_or_free (live n r ∷ xs) = none_there
none_or_free (free n r ∷ xs) = one_there n r

module _ (E : Engine) where
  -- what a side has is what is merged and the rest
  pub owed_is : (side : List Region) (x : E.Index) → (beside E side x).owed ≡ map rec (merged side)
  unfolding beside merged
  owed_is [] x = refl
  owed_is (live n r ∷ xs) x = refl
  owed_is (free n r ∷ xs) x = refl

  pub added_is : (side : List Region) (x : E.Index) → (beside E side x).added ≡ tally len (merged side)
  unfolding beside merged
  added_is [] x = refl
  added_is (live n r ∷ xs) x = refl
  added_is (free n r ∷ xs) x = omega arith

  pub after_is : (after : List Region) (x : E.Index) → after ≡ merged after ++ (beside E after x).rest
  unfolding beside merged
  after_is [] x = refl
  after_is (live n r ∷ xs) x = refl
  after_is (free n r ∷ xs) x = refl

  pub before_is : (before rest : List Region) (x : E.Index)
      → reverse_aux before rest ≡ reverse (beside E before x).rest ++ (merged before ++ rest)
  unfolding beside merged
  before_is [] rest x = refl
  before_is (live n r ∷ xs) rest x = reverse_aux-eq (live n r ∷ xs) rest
  before_is (free n r ∷ xs) rest x = reverse_aux-eq xs (free n r ∷ rest)

  -- no free region is left next to the merged one
  pub none_left : (side : List Region) (x : E.Index) → Apart side → (m q : ℕ) (xs : List Region) → (beside E side x).rest ≢ free m q ∷ xs
  unfolding beside
  none_left [] x h m q xs e = clash (cc)
  none_left (live n r ∷ rest) x h m q xs e = clash (cc)
  none_left (free n r ∷ []) x h m q xs e = clash (cc)
  none_left (free n r ∷ live k p ∷ rest) x h m q xs e = clash (cc)
  none_left (free n r ∷ free k p ∷ rest) x h m q xs e = absurd h.0

  module _ (size count : ℕ) where
    unfoldable pub return_of : {before after : List Region} {n r o : ℕ} (l : Ledger E.Index) → WellFormed E size count l
        → Between before (live n r) after l.line → tally len before ≡ o → hands_back E (span_of o r) l ≡ (done, merge E before n r after l) → Return E n r o l
    unfolding merge
    return_of {before} {after} {n} {r} {o} l w b h e = record {
      front = front;
      before = merged before;
      after = merged after;
      back = a_side.rest;
      line_was = b.line_is ∙ before_is before (live n r ∷ after) l.index
          ∙ ap (λ zs. front ++ (merged before ++ (live n r ∷ zs))) (after_is after b_side.index);
      place_was = omega (arith, h, side_len E before l.index, added_is before l.index, front_len);
      free_before = none_or_free before;
      free_after = none_or_free after;
      none_left_before = λ m q xs g. none_left before l.index sides.0.1 m q (reverse xs)
          (sym (reverse-reverse b_side.rest) ∙ ap reverse g ∙ reverse-append xs (free m q ∷ []));
      none_left_after = λ m q xs h. none_left after b_side.index sides.1.1 m q xs h;
      answer_is = ap (λ a. a.0) e;
      whole = whole;
      whole_is = omega (arith, added_is before l.index, added_is after b_side.index);
      line_is = line_is;
      place_is = rw line_is (at_front front (free whole r) a_side.rest);
      pile_is = ap (λ a. a.1.pile) e ∙ rw (owed_is before l.index, owed_is after b_side.index);
    }
      where
        b_side : Side E.Index
        b_side = beside E before l.index

        a_side : Side E.Index
        a_side = beside E after b_side.index

        front : List Region
        front = reverse b_side.rest

        whole : ℕ
        whole = b_side.added + n + a_side.added

        front_len : tally len front ≡ tally len b_side.rest + 0
        front_len = tally_reverse_aux len b_side.rest []

        sides : Apart (live n r ∷ before) × Apart (live n r ∷ after)
        sides = apart_sides before (live n r) after (rw b.line_is at w.lined.apart)

        line_is : (hands_back E (span_of o r) l).1.line ≡ front ++ (free whole r ∷ a_side.rest)
        line_is = ap (λ a. a.1.line) e ∙ reverse_aux-eq b_side.rest (free whole r ∷ a_side.rest)

    pub the_return : (n r o : ℕ) (l : Ledger E.Index) → WellFormed E size count l → At (live n r) o l.line → Return E n r o l
    the_return n r o l w a = let t = held E w a in return_of l w t.place t.place_is t.outcome
