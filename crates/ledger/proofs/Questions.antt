-- Each question on a ledger in order: with which number it is refused, and how many figures it returns. Assumes nothing.
use mathlib.Core.Path.{◌≡◌, refl, subst, ap}
use mathlib.Core.Logic.{◌⊎◌, inl, inr}
use Prim.Native.Nat.{ℕ, ◌+◌}
use native.Mathlib.Omega.{arith}
use mathlib.Core.List.{List, [], ◌∷◌, map}
use lib.ListN.{length, length-map}
use Rattle.basics.proofs.Clash.{clash}
use Rattle.ledger.specs.Ledger.{Engine, Ledger, Stacks, by_class, refused, numbers_from, full_at, full_of, size_of}
use Rattle.ledger.specs.Calls.{Question, SizeOf, Report, FullReport, Fill, figures_told, Token, Ask, span_of, QuestionsDiffer, told}
use Rattle.ledger.specs.Figures.{in_a_row, figures_of}
use Rattle.ledger.specs.WellFormed.{WellFormed}
use Rattle.ledger.specs.Claims.{CanRefuse, unknown, unknown_there}
use Rattle.ledger.proofs.Numbers.{length_numbers_from}
use Rattle.ledger.proofs.Cases.{LiveCase, is_live_case, is_elsewhere, not_live, live_case}

-- ---- which questions there are
-- the span that a question names, any where it names none; and a number for each of those
unfoldable pub span_asked : Question → Token
span_asked (SizeOf span) = span
span_asked Report = span_of 0 0
span_asked FullReport = span_of 0 0
span_asked Fill = span_of 0 0

unfoldable number_asked : Question → ℕ
number_asked (SizeOf span) = 0
number_asked Report = 1
number_asked FullReport = 2
number_asked Fill = 3

pub every_question : (q : Question) → ((span : Token) × (q ≡ SizeOf span)) ⊎ ((q ≡ Report) ⊎ ((q ≡ FullReport) ⊎ (q ≡ Fill)))
every_question (SizeOf span) = inl (span, refl)
every_question Report = inr (inl refl)
every_question FullReport = inr (inr (inl refl))
every_question Fill = inr (inr (inr refl))

pub questions_differ : QuestionsDiffer
unfolding number_asked
questions_differ = (λ e. absurd (omega (arith, ap number_asked e)), λ e. absurd (omega (arith, ap number_asked e)), λ e. absurd (omega (arith, ap number_asked e)))

-- ---- what a ledger in order answers
module _ (E : Engine) (size count : ℕ) where
  pub told_refused : (q : Question) (k : ℕ) (l : Ledger E.Index) → WellFormed E size count l → told E size count q l ≡ refused k
      → CanRefuse (Ask q) k
  unfolding told
  told_refused (SizeOf span) k l w x = go (live_case E w span.offset span.number)
    where
      go : LiveCase E span.offset span.number l → CanRefuse (Ask (SizeOf span)) k
      go (not_live h e q) = let number : 5 ≡ k = cc in subst (CanRefuse (Ask (SizeOf span))) number unknown
      go (is_elsewhere n before after b p e q) = let number : 8 ≡ k = cc in subst (CanRefuse (Ask (SizeOf span))) number unknown_there
      go (is_live_case n before after b p e q) = clash (cc)
  told_refused Report k l w x = clash (cc)
  told_refused FullReport k l w x = clash (cc)
  told_refused Fill k l w x = clash (cc)

in_a_row_lem : (rows : List (ℕ × ℕ)) → length (in_a_row rows) ≡ length rows + length rows
unfolding in_a_row
in_a_row_lem [] = refl
in_a_row_lem (x ∷ rows) = omega (arith, in_a_row_lem rows)

module _ (size count : ℕ) where
  pub told_figures : (q : Question) (l : Ledger Stacks) → WellFormed by_class size count l
      → length (figures_of (Ask q) (told by_class size count q l)) ≡ figures_told q
  unfolding told full_of
  told_figures (SizeOf span) l w = go (live_case by_class w span.offset span.number)
    where
      go : LiveCase by_class span.offset span.number l → length (figures_of (Ask (SizeOf span)) (size_of span.offset span.number l)) ≡ 1
      go (not_live h e q) = rw q
      go (is_elsewhere n before after b p e q) = rw q
      go (is_live_case n before after b p e q) = rw q
  told_figures Report l w = refl
  told_figures Fill l w = refl
  told_figures FullReport l w = omega (
    arith,
    in_a_row_lem (map (full_at l.index) (numbers_from 0 256)),
    length-map (numbers_from 0 256) (full_at l.index),
    length_numbers_from 256 0,
  )
