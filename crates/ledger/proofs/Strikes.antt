-- What a return strikes from the list of spans that are out: the first of its offset and record, and no other. Assumes nothing.
use mathlib.Core.Path.{◌≡◌, refl, ap}
use Prim.Native.Nat.{ℕ}
use mathlib.Core.Bool.{true, false, cond, ◌&&◌}
use mathlib.Core.Logic.{◌≢◌}
use mathlib.Core.List.{List, [], ◌∷◌, ◌++◌}
use lib.Dec.{eqb}
use Rattle.basics.proofs.Decided.{Same, same, differ, same?, eqb_same}
use Rattle.ledger.specs.Calls.{Token, span_of}
use Rattle.ledger.specs.History.{Span, strike}

-- a span is of this offset and record, or it is not
pub data Named (span : Token) (x : Span) : Type 0 where
  named : span_of x.offset x.number ≡ span → (eqb x.number span.number && eqb x.offset span.offset) ≡ true → Named span x
  another : span_of x.offset x.number ≢ span → (eqb x.number span.number && eqb x.offset span.offset) ≡ false → Named span x

pub named? : (span : Token) (x : Span) → Named span x
named? span x = go (same? x.number span.number) (same? x.offset span.offset)
  where
    go : Same x.number span.number → Same x.offset span.offset → Named span x
    go (same p e) (same q f) = named (λ i. record { offset = q i; number = p i }) (rw (e, f))
    go (same p e) (differ q f) = another (λ g. q (ap (λ (t : Token). t.offset) g)) (rw (e, f))
    go (differ p e) s = another (λ g. p (ap (λ (t : Token). t.number) g)) (rw e)

-- no span of the list is of this offset and record; then none of those behind the first is
abbrev pub NoneNamed : Token → List Span → Type 0
NoneNamed span out = (xs ys : List Span) (x : Span) → out ≡ xs ++ (x ∷ ys) → span_of x.offset x.number ≢ span

not_behind : {span : Token} (x : Span) (out : List Span) → NoneNamed span (x ∷ out) → NoneNamed span out
not_behind x out h xs ys y e = h (x ∷ xs) ys y (ap {B = List Span} (λ zs. x ∷ zs) e)

pub strikes_one : (n o r : ℕ) (front back : List Span) → NoneNamed (span_of o r) front
    → strike (span_of o r) (front ++ (record { offset = o; size = n; number = r } ∷ back)) ≡ front ++ back
unfolding strike
strikes_one n o r [] back h = rw (eqb_same r, eqb_same o)
strikes_one n o r (x ∷ front) back h = go (named? (span_of o r) x) (strikes_one n o r front back (not_behind x front h))
  where
    rest : List Span
    rest = front ++ (record { offset = o; size = n; number = r } ∷ back)

    go : Named (span_of o r) x → strike (span_of o r) rest ≡ front ++ back
        → cond (eqb x.number r && eqb x.offset o) rest (x ∷ strike (span_of o r) rest) ≡ x ∷ (front ++ back)
    go (named p e) behind = absurd (h [] front x refl p)
    go (another p e) behind = rw (e, behind)

pub strikes_no_other : (span : Token) (out : List Span) → NoneNamed span out → strike span out ≡ out
unfolding strike
strikes_no_other span [] h = refl
strikes_no_other span (x ∷ out) h = go (named? span x) (strikes_no_other span out (not_behind x out h))
  where
    go : Named span x → strike span out ≡ out
        → cond (eqb x.number span.number && eqb x.offset span.offset) out (x ∷ strike span out) ≡ x ∷ out
    go (named p e) behind = absurd (h [] out x refl p)
    go (another p e) behind = rw (e, behind)
