-- What a list of packets says of a span after one was added, struck or refilled. Assumes nothing.
use mathlib.Core.Path.{◌≡◌, refl, sym, ap, subst, ◌∙◌}
use mathlib.Core.Logic.{◌≢◌}
use mathlib.Core.Bool.{true, false}
use mathlib.Core.Option.{none, some}
use mathlib.Core.List.{List, [], ◌∷◌}
use Prim.Native.Nat.{ℕ}
use Rattle.basics.proofs.Decided.{Same, same, differ, same?}
use Rattle.basics.proofs.Clash.{clash}
use Rattle.ledger.specs.Calls.{Token}
use Rattle.packets.specs.Shelf.{Held, same_span, contents, strike, refilled, refill}

-- ---- two spans are one, or they are not: the fact together with the value of the test
pub data Compared (a b : Token) : Type 0 where
  one_span : a ≡ b → same_span a b ≡ true → Compared a b
  two_spans : a ≢ b → same_span a b ≡ false → Compared a b

pub compared : (a b : Token) → Compared a b
compared a b = go (same? a.number b.number) (same? a.offset b.offset)
  where
    go : Same a.number b.number → Same a.offset b.offset → Compared a b
    go (same p e) (same q f) = one_span (λ i. record { offset = q i; number = p i }) (rw (e, f))
    go (same p e) (differ q f) = two_spans (λ g. q (ap (λ (t : Token). t.offset) g)) (rw (e, f))
    go (differ p e) s = two_spans (λ g. p (ap (λ (t : Token). t.number) g)) (rw e)

-- ---- the first of the list
pub its_own : (span : Token) (bytes : List ℕ) (held : List Held) → contents span (record { span = span; bytes = bytes } ∷ held) ≡ some bytes
unfolding contents
its_own span bytes held = elim (compared span span) [ one_span p e ↦ rw e | two_spans p e ↦ absurd (p refl) ]

pub of_another : (h : Held) (span : Token) (held : List Held) → h.span ≢ span → contents span (h ∷ held) ≡ contents span held
unfolding contents
of_another h span held differs = elim (compared h.span span) [ one_span p e ↦ absurd (differs p) | two_spans p e ↦ rw e ]

-- ---- one is struck
pub others_listed : (span other : Token) (held : List Held) → span ≢ other → contents other (strike span held) ≡ contents other held
unfolding contents strike
others_listed span other [] differs = refl
others_listed span other (h ∷ held) differs = go (compared h.span span) (compared h.span other) (others_listed span other held differs)
  where
    go : Compared h.span span → Compared h.span other → contents other (strike span held) ≡ contents other held
        → contents other (strike span (h ∷ held)) ≡ contents other (h ∷ held)
    go (one_span p e) (one_span q f) more = absurd (differs (sym p ∙ q))
    go (one_span p e) (two_spans q f) more = rw (e, f)
    go (two_spans p e) (one_span q f) more = rw (e, f)
    go (two_spans p e) (two_spans q f) more = rw (e, f) more

pub none_struck : (span other : Token) (held : List Held) → contents other held ≡ none → contents other (strike span held) ≡ none
unfolding contents strike
none_struck span other [] e = refl
none_struck span other (h ∷ held) e = go (compared h.span span) (compared h.span other) (none_struck span other held)
  where
    go : Compared h.span span → Compared h.span other → (contents other held ≡ none → contents other (strike span held) ≡ none)
        → contents other (strike span (h ∷ held)) ≡ none
    go (one_span p f) (one_span q g) more = clash (cc (rw g at e))
    go (one_span p f) (two_spans q g) more = rw f (rw g at e)
    go (two_spans p f) (one_span q g) more = clash (cc (rw g at e))
    go (two_spans p f) (two_spans q g) more = rw (f, g) (more (rw g at e))

-- ---- no span is listed twice
abbrev pub Distinct : List Held → Type 0
Distinct [] = Unit
Distinct (h ∷ held) = (contents h.span held ≡ none) × Distinct held

pub struck_gone : (span : Token) (held : List Held) → Distinct held → contents span (strike span held) ≡ none
unfolding contents strike
struck_gone span [] d = refl
struck_gone span (h ∷ held) d = go (compared h.span span) (struck_gone span held d.1)
  where
    go : Compared h.span span → contents span (strike span held) ≡ none → contents span (strike span (h ∷ held)) ≡ none
    go (one_span p e) more = rw e (subst (λ (x : Token). contents x held ≡ none) p d.0)
    go (two_spans p e) more = rw (e, e) more

pub struck_distinct : (span : Token) (held : List Held) → Distinct held → Distinct (strike span held)
unfolding strike
struck_distinct span [] d = tt
struck_distinct span (h ∷ held) d = go (compared h.span span) (struck_distinct span held d.1)
  where
    go : Compared h.span span → Distinct (strike span held) → Distinct (strike span (h ∷ held))
    go (one_span p e) more = rw e d.1
    go (two_spans p e) more = rw e (none_struck span h.span held d.0, more)

-- ---- one is refilled
pub refilled_its_own : (span : Token) (new bytes : List ℕ) (held : List Held) → contents span held ≡ some bytes
    → contents span (refill span new held) ≡ some (refilled new bytes)
unfolding contents refill
refilled_its_own span new bytes [] e = clash (cc)
refilled_its_own span new bytes (h ∷ held) e = go (compared h.span span) (refilled_its_own span new bytes held)
  where
    go : Compared h.span span → (contents span held ≡ some bytes → contents span (refill span new held) ≡ some (refilled new bytes))
        → contents span (refill span new (h ∷ held)) ≡ some (refilled new bytes)
    go (one_span p f) more = let its : h.bytes ≡ bytes = cc (rw f at e) in rw (f, f) (ap (λ (b : List ℕ). some (refilled new b)) its)
    go (two_spans p f) more = rw (f, f) (more (rw f at e))

pub refilled_others : (span other : Token) (new : List ℕ) (held : List Held) → span ≢ other
    → contents other (refill span new held) ≡ contents other held
unfolding contents refill
refilled_others span other new [] differs = refl
refilled_others span other new (h ∷ held) differs = go (compared h.span span) (compared h.span other) (refilled_others span other new held differs)
  where
    go : Compared h.span span → Compared h.span other → contents other (refill span new held) ≡ contents other held
        → contents other (refill span new (h ∷ held)) ≡ contents other (h ∷ held)
    go (one_span p e) (one_span q f) more = absurd (differs (sym p ∙ q))
    go (one_span p e) (two_spans q f) more = rw (e, f)
    go (two_spans p e) (one_span q f) more = rw (e, f)
    go (two_spans p e) (two_spans q f) more = rw (e, f) more

pub none_refilled : (span other : Token) (new : List ℕ) (held : List Held) → contents other held ≡ none → contents other (refill span new held) ≡ none
unfolding contents refill
none_refilled span other new [] e = refl
none_refilled span other new (h ∷ held) e = go (compared h.span span) (compared h.span other) (none_refilled span other new held)
  where
    go : Compared h.span span → Compared h.span other → (contents other held ≡ none → contents other (refill span new held) ≡ none)
        → contents other (refill span new (h ∷ held)) ≡ none
    go (one_span p f) (one_span q g) more = clash (cc (rw g at e))
    go (one_span p f) (two_spans q g) more = rw (f, g) (rw g at e)
    go (two_spans p f) (one_span q g) more = clash (cc (rw g at e))
    go (two_spans p f) (two_spans q g) more = rw (f, g) (more (rw g at e))

pub refilled_distinct : (span : Token) (new : List ℕ) (held : List Held) → Distinct held → Distinct (refill span new held)
unfolding refill
refilled_distinct span new [] d = tt
refilled_distinct span new (h ∷ held) d = go (compared h.span span) (refilled_distinct span new held d.1)
  where
    go : Compared h.span span → Distinct (refill span new held) → Distinct (refill span new (h ∷ held))
    go (one_span p e) more = rw e d
    go (two_spans p e) more = rw e (none_refilled span h.span new held d.0, more)
