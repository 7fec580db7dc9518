-- A row of the list of runs agrees with one letter and two numbers alone: where one of them differs, so does the verdict. And which rows show a
-- listed difference. Assumes nothing.
use mathlib.Core.Path.{◌≡◌, refl, sym, ◌∙◌}
use mathlib.Core.Logic.{◌⊎◌, inl, inr}
use mathlib.Core.Bool.{cond}
use Prim.Native.Nat.{ℕ}
use Rattle.std.specs.Prelude.{Option, None, Some}
use lib.Dec.{eqb}
use Rattle.basics.proofs.Clash.{clash}
use Rattle.basics.proofs.Decided.{same?, same, differ}
use Rattle.oracle_lists.specs.declared.rows.Reader.{Reader}
use Rattle.call_verdicts.specs.declared.Said.{Said}
use Rattle.oracle_lists.specs.declared.tally.Verdict.{Verdict}
use Rattle.oracle_lists.specs.declared.tally.Verdict.TheVariants.{Agrees, Listed, Differs}
use Rattle.call_verdicts.specs.Verdicts.{same_numbers, call_verdict}

-- a test that gives Differs where it fails has not failed
passed : (a b : ℕ) (v : Verdict) → cond (eqb a b) v Differs ≡ Agrees → (a ≡ b) × (v ≡ Agrees)
passed a b v e = elim (same? a b) [ same p f ↦ (p, sym (rw f) ∙ e) | differ p f ↦ clash (cc) ]

-- and one that gives Listed where it holds has not held
unlisted : (a b : ℕ) (v : Verdict) → cond (eqb a b) Listed v ≡ Agrees → v ≡ Agrees
unlisted a b v e = elim (same? a b) [ same p f ↦ clash (cc) | differ p f ↦ sym (rw f) ∙ e ]

agrees_said : (r : Reader) (s : Said) → call_verdict r (Some s) ≡ Agrees → (r.letter ≡ s.letter) × (r.c ≡ s.c) × (r.d ≡ s.d)
unfolding call_verdict same_numbers
agrees_said r s e =
    let by-letter = passed r.letter s.letter _ e in
    let by-c = passed r.c s.c _ by-letter.1 in
    let by-d = passed r.d s.d _ (unlisted r.letter 109 _ (unlisted r.letter 117 _ by-c.1)) in
    (by-letter.0, by-c.0, by-d.0)

pub agrees_only : (r : Reader) (s : Option Said) → call_verdict r s ≡ Agrees
    → (t : Said) × ((s ≡ Some t) × ((r.letter ≡ t.letter) × (r.c ≡ t.c) × (r.d ≡ t.d)))
unfolding call_verdict
agrees_only r None e = clash (cc)
agrees_only r (Some s) e = (s, (refl, agrees_said r s e))

-- the same of a listed difference
kept_listed : (a b : ℕ) (v : Verdict) → cond (eqb a b) v Differs ≡ Listed → (a ≡ b) × (v ≡ Listed)
kept_listed a b v e = elim (same? a b) [ same p f ↦ (p, sym (rw f) ∙ e) | differ p f ↦ clash (cc) ]

-- one that gives Listed where it holds has held, or what is left is listed
held_or : (a b : ℕ) (v : Verdict) → cond (eqb a b) Listed v ≡ Listed → (a ≡ b) ⊎ (v ≡ Listed)
held_or a b v e = elim (same? a b) [ same p f ↦ inl p | differ p f ↦ inr (sym (rw f) ∙ e) ]

-- the letters of which both numbers are compared
abbrev whole : ℕ → Verdict
whole letter = cond (eqb letter 98) Listed (cond (eqb letter 119) Listed Agrees)

b_or_w : (letter : ℕ) → whole letter ≡ Listed → (letter ≡ 98) ⊎ (letter ≡ 119)
b_or_w letter is = elim (held_or letter 98 _ is) [
  | inl b ↦ inl b
  | inr rest ↦ elim (held_or letter 119 Agrees rest) [ inl w ↦ inr w | inr never ↦ clash (cc) ]
]

in_listed : (letter d e : ℕ)
    → cond (eqb letter 117) Listed (cond (eqb letter 109) Listed (cond (eqb d e) (whole letter) Differs)) ≡ Listed
    → ((letter ≡ 117) ⊎ (letter ≡ 109)) ⊎ (((letter ≡ 98) ⊎ (letter ≡ 119)) × (d ≡ e))
in_listed letter d e is = elim (held_or letter 117 _ is) [
  | inl u ↦ inl (inl u)
  | inr rest ↦ elim (held_or letter 109 _ rest) [
    | inl m ↦ inl (inr m)
    | inr both ↦
        let by-d = kept_listed d e (whole letter) both in
        inr (b_or_w letter by-d.1, by-d.0)
  ]
]

listed_said : (r : Reader) (s : Said) → call_verdict r (Some s) ≡ Listed
    → (r.letter ≡ s.letter)
    × (r.c ≡ s.c)
    × (((r.letter ≡ 117) ⊎ (r.letter ≡ 109)) ⊎ (((r.letter ≡ 98) ⊎ (r.letter ≡ 119)) × (r.d ≡ s.d)))
unfolding call_verdict same_numbers
listed_said r s e =
    let by-letter = kept_listed r.letter s.letter _ e in
    let by-c = kept_listed r.c s.c _ by-letter.1 in
    (by-letter.0, by-c.0, in_listed r.letter r.d s.d by-c.1)

pub listed_only : (r : Reader) (s : Option Said) → call_verdict r s ≡ Listed
    → (t : Said) × ((s ≡ Some t) × ((r.letter ≡ t.letter)
    × (r.c ≡ t.c)
    × (((r.letter ≡ 117) ⊎ (r.letter ≡ 109)) ⊎ (((r.letter ≡ 98) ⊎ (r.letter ≡ 119)) × (r.d ≡ t.d)))))
unfolding call_verdict
listed_only r None e = clash (cc)
listed_only r (Some s) e = (s, (refl, listed_said r s e))
