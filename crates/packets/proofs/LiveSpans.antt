-- Which spans of a ledger are live after a take and after a hand-back, beside those that were before. Assumes nothing.
use mathlib.Core.Path.{◌≡◌, refl, sym, ap, subst, ◌∙◌}
use mathlib.Core.Logic.{◌⊎◌, inl, inr, ◌≢◌}
use Prim.Native.Nat.{ℕ, ◌+◌, ◌≤◌}
use Rattle.basics.specs.Sum.{tally}
use Rattle.basics.proofs.Clash.{clash}
use Rattle.ledger.specs.Ledger.{Ledger, live, free, len, Answer, granted, done, length_is, refused, by_class, Stacks}
use Rattle.ledger.specs.Calls.{Request, Token, span_of, SizeOf, Take, HandBack, Ask, told, answer}
use Rattle.ledger.specs.WellFormed.{WellFormed}
use Rattle.ledger.specs.Spans.{At, Disjoint}
use Rattle.ledger.specs.Claims.{Grant, Return}
use Rattle.basics.proofs.Decided.{Same, same, differ, same?}
use Rattle.ledger.proofs.Places.{same_region, same_place, between_at}
use Rattle.ledger.proofs.Spans.{inside, disjoint}
use Rattle.ledger.proofs.Refusals.{size_told, granted_or_refused}
use Rattle.ledger.proofs.Records.{once_in_line}
use Rattle.ledger.proofs.Cases.{LiveCase, is_live_case, is_elsewhere, not_live, live_case}
use Rattle.ledger.proofs.Grants.{the_grant, grant_alone}
use Rattle.ledger.proofs.Returns.{the_return}
use Rattle.ledger.proofs.CallsWell.{call_well}
use Rattle.ledger.proofs.Stays.{call_leaves}
use Rattle.ledger.proofs.ByClass.{class_laws}
use Rattle.packets.proofs.Lines.{cut_from, merge_from}

-- the span is live, with this length
abbrev pub LiveAt : Token → ℕ → Ledger Stacks → Type 0
LiveAt span n l = At (live n span.number) span.offset l.line

-- ---- live spans lie inside the store, and no two of them overlap
pub live_inside : {size count : ℕ} (l : Ledger Stacks) → WellFormed by_class size count l → (span : Token) (n : ℕ) → LiveAt span n l
    → span.offset + n ≤ size
live_inside {size} {count} l w span n a = inside by_class size count l w (live n span.number) span.offset a

pub live_apart : {size count : ℕ} (l : Ledger Stacks) → WellFormed by_class size count l → (span other : Token) (n m : ℕ) → span ≢ other
    → LiveAt span n l → LiveAt other m l → Disjoint span.offset n other.offset m
live_apart {size} {count} l w span other n m differs a b = go (same? span.number other.number)
  where
    go : Same span.number other.number → Disjoint span.offset n other.offset m
    go (same number e) =
        let place = (same_place a b span.number refl (sym number) (once_in_line w.lined span.number)).1 in
        absurd (differs (λ i. record { offset = place i; number = number i }))
    go (differ h e) = disjoint by_class size count l w (live n span.number) (live m other.number) span.offset other.offset a b h

-- ---- the question for a length
pub told_length : {size count : ℕ} (l : Ledger Stacks) → WellFormed by_class size count l → (span : Token) (n : ℕ) → LiveAt span n l
    → (answer by_class size count (Ask (SizeOf span)) l).0 ≡ length_is n
unfolding answer told
told_length {size} {count} l w span n a = size_told by_class class_laws size count n span.number span.offset l w a

pub told_none : {size count : ℕ} (l : Ledger Stacks) → WellFormed by_class size count l → (span : Token) → ((n : ℕ) → ¬ LiveAt span n l)
    → ((answer by_class size count (Ask (SizeOf span)) l).0 ≡ refused 5) ⊎ ((answer by_class size count (Ask (SizeOf span)) l).0 ≡ refused 8)
unfolding answer told
told_none {size} {count} l w span h = go (live_case by_class w span.offset span.number)
  where
    go : LiveCase by_class span.offset span.number l
        → ((answer by_class size count (Ask (SizeOf span)) l).0 ≡ refused 5) ⊎ ((answer by_class size count (Ask (SizeOf span)) l).0 ≡ refused 8)
    go (is_live_case n before after b p e q) =
        absurd (h n (subst (λ (i : ℕ). At (live n span.number) i l.line) p (between_at b)))
    go (is_elsewhere n before after b p e q) = inr q
    go (not_live v e q) = inl q

length_is_no_refusal : {n k : ℕ} → length_is n ≡ refused k → ⊥
length_is_no_refusal e = clash (cc)

-- where the question is refused the span is not live
refused_not_live : {size count : ℕ} (l : Ledger Stacks) → WellFormed by_class size count l → (span : Token) (k : ℕ)
    → (answer by_class size count (Ask (SizeOf span)) l).0 ≡ refused k → (n : ℕ) → ¬ LiveAt span n l
refused_not_live l w span k q n a = length_is_no_refusal (sym (told_length l w span n a) ∙ q)

-- ---- a hand-back: of a live span and done, or of none and refused as 5 or 8
abbrev BackDone : (size count : ℕ) → Ledger Stacks → Token → Type 0
BackDone size count l span =
    ((k : ℕ) × ((k ≡ 5) ⊎ (k ≡ 8)) × ((n : ℕ) → ¬ LiveAt span n l) × ((answer by_class size count (HandBack span) l).0 ≡ refused k))
    ⊎ ((n : ℕ) × LiveAt span n l × ((answer by_class size count (HandBack span) l).0 ≡ done))

pub back_done : {size count : ℕ} (l : Ledger Stacks) → WellFormed by_class size count l → (span : Token) → BackDone size count l span
unfolding answer told
back_done {size} {count} l w span = go (live_case by_class w span.offset span.number)
  where
    go : LiveCase by_class span.offset span.number l → BackDone size count l span
    go (is_live_case n before after b p e q) =
        inr (n, subst (λ (i : ℕ). At (live n span.number) i l.line) p (between_at b), ap (λ (x : Answer × Ledger Stacks). x.0) e)
    go (is_elsewhere n before after b p e q) =
        inl (8, inr refl, refused_not_live l w span 8 q, ap (λ (x : Answer × Ledger Stacks). x.0) e)
    go (not_live v e q) = inl (5, inl refl, refused_not_live l w span 5 q, ap (λ (x : Answer × Ledger Stacks). x.0) e)

-- ---- a take: refused, or granted
pub take_done : {size count : ℕ} (l : Ledger Stacks) → WellFormed by_class size count l → (asked : Request)
    → ((k : ℕ) × ((answer by_class size count (Take asked) l).0 ≡ refused k))
    ⊎ ((o : ℕ) × (r : ℕ) × ((answer by_class size count (Take asked) l).0 ≡ granted o r))
unfolding answer
take_done {size} {count} l w asked = elim (granted_or_refused by_class class_laws size count asked.size l w) [
  | inl g ↦ inr g
  | inr x ↦ inl x
]

-- ---- a take of s that is granted
pub record Granting (s : ℕ) (span : Token) (l next : Ledger Stacks) : Type 0 where
  pub is_out : LiveAt span s next
  pub was_none : (n : ℕ) → ¬ LiveAt span n l
  pub alone : (other : Token) (n : ℕ) → LiveAt other n l → Disjoint span.offset s other.offset n
  pub others_stay : (other : Token) (n : ℕ) → LiveAt other n l → LiveAt other n next
  pub no_more : (other : Token) (n : ℕ) → other ≢ span → LiveAt other n next → LiveAt other n l

-- ---- a hand-back that is done
pub record Returning (span : Token) (l next : Ledger Stacks) : Type 0 where
  pub is_none : (n : ℕ) → ¬ LiveAt span n next
  pub others_stay : (other : Token) (n : ℕ) → span ≢ other → LiveAt other n l → LiveAt other n next
  pub no_more : (other : Token) (n : ℕ) → LiveAt other n next → LiveAt other n l

module _ {size count : ℕ} (two : 2 ≤ count) (l : Ledger Stacks) (w : WellFormed by_class size count l) where
  pub take_grants : (asked : Request) (o r : ℕ) → (answer by_class size count (Take asked) l).0 ≡ granted o r
      → Granting asked.size (span_of o r) l (answer by_class size count (Take asked) l).1
  unfolding answer
  take_grants asked o r g = record {
    is_out = t.is_live;
    was_none = λ n a. free_not_live n (same_region t.was_free a r refl refl (once_in_line w.lined r));
    alone = λ other n a. grant_alone by_class class_laws size count asked.size o r l w g n other.number other.offset a;
    others_stay = λ other n a. call_leaves by_class class_laws size count two (Take asked) n other.number other.offset l w tt a;
    no_more = λ other n differs a.
        stood other differs
        (cut_from t.front t.remainder t.back t.length_before r asked.size t.line_was t.line_is t.remainder_is as_long a);
  }
    where
      t : Grant by_class asked.size o r l
      t = the_grant by_class class_laws size count asked.size o r l w g

      free_not_live : (n : ℕ) → free t.length_before r ≡ live n r → ⊥
      free_not_live n e = clash (cc)

      as_long : tally len l.line ≡ tally len (answer by_class size count (Take asked) l).1.line
      as_long = w.lined.cover ∙ sym (call_well by_class class_laws size count two (Take asked) l w).lined.cover

      stood : {n : ℕ} (other : Token) → other ≢ span_of o r → ((other.offset ≡ tally len t.front) × (other.number ≡ r)) ⊎ LiveAt other n l
          → LiveAt other n l
      stood other differs (inl e) =
          let place : other.offset ≡ o = e.0 ∙ sym t.place_was in
          let number : other.number ≡ r = e.1 in
          absurd (differs (λ i. record { offset = place i; number = number i }))
      stood other differs (inr a) = a

  pub back_returns : (span : Token) (n : ℕ) → LiveAt span n l → Returning span l (answer by_class size count (HandBack span) l).1
  unfolding answer
  back_returns span n a = record {
    is_none = λ m b. free_not_live m (same_region t.place_is b span.number refl refl (once_in_line well.lined span.number));
    others_stay = λ other m differs b.
        call_leaves by_class class_laws size count two (HandBack span) m other.number other.offset l w differs b;
    no_more = λ other m b. merge_from t.front t.before t.after t.back n span.number t.whole t.line_was t.line_is t.whole_is b;
  }
    where
      t : Return by_class n span.number span.offset l
      t = the_return by_class size count n span.number span.offset l w a

      well : WellFormed by_class size count (answer by_class size count (HandBack span) l).1
      well = call_well by_class class_laws size count two (HandBack span) l w

      free_not_live : (m : ℕ) → free t.whole span.number ≡ live m span.number → ⊥
      free_not_live m e = clash (cc)
