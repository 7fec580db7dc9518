-- A row agrees with one answer and one gauge alone: bits are those of one float. Assumes nothing.
use Prim.Native.Nat.{ℕ}
use mathlib.Core.Path.{◌≡◌, refl, sym, ◌∙◌, ap}
use mathlib.Core.Logic.{◌⊎◌, inl, inr}
use native.Mathlib.Omega.{arith}
use lib.Dec.{T}
use lib.IntN.{ℤ}
use lib.Ieee.{Float, nan, binary32, fits, to_bits, of_bits}
use lib.Ieee.Bits.{of_bits-to_bits}
use Rattle.oracle_lists.specs.declared.rows.Reader.{Reader}
use Rattle.gauge_verdicts.specs.Rows.{bits, Numbers, ToldRow, RefusedRow, KeptRow}

pub one_float : (x y : Float) → T (fits binary32 x) → T (fits binary32 y) → bits x ≡ bits y → x ≡ y
one_float x y fx fy e = sym (of_bits-to_bits binary32 x fx) ∙ ap (λ (n : ℕ). of_bits binary32 n) e ∙ of_bits-to_bits binary32 y fy

pub not_a_number : bits nan ≡ 2143289344
unfolding to_bits
not_a_number = refl

two_letters : (n : ℕ) → n ≡ 117 → n ≡ 100 → ⊥
two_letters n p q = omega arith

no_refusal : (n : ℕ) → (n ≡ 117) ⊎ (n ≡ 100) → n ≡ 120 → ⊥
no_refusal n (inl p) q = omega arith
no_refusal n (inr p) q = omega arith

-- rows of one letter, by the numbers
same_numbers : (r : Reader) (fill other-fill : ℕ) (level other-level peak other-peak : Float) (net other-net change : ℤ)
    → T (fits binary32 level)
    → T (fits binary32 other-level)
    → T (fits binary32 peak)
    → T (fits binary32 other-peak)
    → Numbers r fill level peak net change
    → Numbers r other-fill other-level other-peak other-net change
    → (fill ≡ other-fill) × (level ≡ other-level) × (peak ≡ other-peak) × (net ≡ other-net)
same_numbers r fill other-fill level other-level peak other-peak net other-net change f g h k a b = (
  sym a.1 ∙ b.1,
  one_float level other-level f g (sym a.2 ∙ b.2),
  one_float peak other-peak h k (sym a.3 ∙ b.3),
  a.4 ∙ sym b.4,
)

pub one_reading : (r : Reader) (fill other-fill : ℕ) (level other-level peak other-peak : Float) (net other-net : ℤ)
    → T (fits binary32 level)
    → T (fits binary32 other-level)
    → T (fits binary32 peak)
    → T (fits binary32 other-peak)
    → ToldRow r fill level peak net
    → ToldRow r other-fill other-level other-peak other-net
    → (fill ≡ other-fill) × (level ≡ other-level) × (peak ≡ other-peak) × (net ≡ other-net)
one_reading r fill other-fill level other-level peak other-peak net other-net f g h k (inl a) (inl b) =
    same_numbers r fill other-fill level other-level peak other-peak net other-net _ f g h k a.1 b.1
one_reading r fill other-fill level other-level peak other-peak net other-net f g h k (inr a) (inr b) =
    same_numbers r fill other-fill level other-level peak other-peak net other-net _ f g h k a.1 b.1
one_reading r fill other-fill level other-level peak other-peak net other-net f g h k (inl a) (inr b) =
    absurd (two_letters r.letter a.0 b.0)
one_reading r fill other-fill level other-level peak other-peak net other-net f g h k (inr a) (inl b) =
    absurd (two_letters r.letter b.0 a.0)

pub not_both : (r : Reader) (fill number : ℕ) (level peak : Float) (net : ℤ) → ToldRow r fill level peak net → RefusedRow r number → ⊥
not_both r fill number level peak net (inl a) b = no_refusal r.letter (inl a.0) b.0
not_both r fill number level peak net (inr a) b = no_refusal r.letter (inr a.0) b.0

pub one_gauge : (r : Reader) (level other-level peak other-peak : Float) (last other_last : ℕ)
    → T (fits binary32 level)
    → T (fits binary32 other-level)
    → T (fits binary32 peak)
    → T (fits binary32 other-peak)
    → KeptRow r level peak last
    → KeptRow r other-level other-peak other_last
    → (level ≡ other-level) × (peak ≡ other-peak) × (last ≡ other_last)
one_gauge r level other-level peak other-peak last other_last f g h k a b =
    (one_float level other-level f g (sym a.2 ∙ b.2), one_float peak other-peak h k (sym a.3 ∙ b.3), sym a.4 ∙ b.4)
