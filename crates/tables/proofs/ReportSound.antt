-- The short report on sound words answers as the ledger. Assumes nothing.
use mathlib.Core.Path.{◌≡◌, ap, ap₂, sym, ◌∙◌}
use mathlib.Core.Logic.{◌≢◌}
use mathlib.Core.List.{List, [], ◌∷◌}
use Prim.Native.Nat.{ℕ, ◌+◌, ◌*◌, ◌≤◌, ◌<◌}
use native.Mathlib.Omega.{arith}
use lib.ListN.{length, get_or}
use borrow.Author.Tests.{lt-ltb, ne_eqb}
use Rattle.basics.specs.Sum.{tally}
use Rattle.basics.specs.Extreme.{Greatest}
use Rattle.basics.proofs.Decided.{Same, same, differ, same?, below, beyond, below?}
use Rattle.small_float.specs.Class.{value, classes_in_use}
use Rattle.ledger.specs.Ledger.{Ledger, free_len, Answer, reported, report, highest, by_class, Stacks}
use Rattle.ledger.proofs.ReportRule.{report_one_spare}
use Rattle.ledger.proofs.Searches.{all_empty, highest_is, highest?}
use Rattle.ledger.proofs.ByClass.{class_laws}
use Rattle.tables.specs.Words.{Words, Edition}
use Rattle.tables.specs.Search.{high_bit}
use Rattle.tables.specs.Questions.{report_class, report_leaf, report_top, report_of}
use Rattle.tables.specs.Sound.{Sound}
use Rattle.tables.specs.Claims.{Holds}
use Rattle.tables.proofs.SoundOf.{high_empty, shelf_of}
use Rattle.tables.proofs.Search.{top_byte, top_none, top_some}

module _ (E : Edition) (w : Words) (l : Ledger Stacks) (S : Sound E w l) where
  -- the highest class that the words find is the ledger's
  abbrev top_class : ℕ
  top_class = 8 * high_bit w.used_bins_top + high_bit (get_or w.used_bins (high_bit w.used_bins_top) 0)

  in_use : (c : ℕ) → Holds l c → c < classes_in_use
  in_use c h = elim (below? c classes_in_use) [ below k e ↦ k | beyond k e ↦ absurd (h (high_empty E w l S c k)) ]

  not_empty : (c r : ℕ) (under : List ℕ) → l.index c ≡ r ∷ under → Holds l c
  not_empty c r under e z = omega (arith, ap (length {A = ℕ}) (sym e ∙ z))

  highest_of : (c : ℕ) → Greatest (λ d. Holds l d) c → highest l.index classes_in_use ≡ value c
  highest_of c g = elim (highest? l.index classes_in_use) [
    | all_empty m empty ↦ absurd (g.0 (empty c (in_use c g.0)))
    | highest_is d r under m low top higher ↦ elim (below? d c) [
      | below k e ↦ absurd (g.0 (higher c k (in_use c g.0)))
      | beyond k e ↦ m ∙ ap value (omega (arith, g.1 d (not_empty d r under top)))
    ]
  ]

  highest_none : ((d : ℕ) → l.index d ≡ []) → highest l.index classes_in_use ≡ 0
  highest_none h = elim (highest? l.index classes_in_use) [
    | all_empty m empty ↦ m
    | highest_is d r under m low top higher ↦ absurd (not_empty d r under top (h d))
  ]

  -- the ledger's report, where more than one record is spare
  report_more : 2 ≤ length l.pile → report by_class l ≡ (tally free_len l.line, highest l.index classes_in_use)
  report_more h = unfold report in rw (lt-ltb 1 (length l.pile) h)

  -- the words' report, by what the bits say
  pub report_is : report_of w ≡ reported (report by_class l).0 (report by_class l).1
  report_is = go (same? w.free_offset 0) (same? w.used_bins_top 0)
    where
      shown : ℕ × ℕ → Answer
      shown x = reported x.0 x.1

      more : w.free_offset ≢ 0 → report by_class l ≡ (tally free_len l.line, highest l.index classes_in_use)
      more d = report_more (omega (arith, S.spare.spares))

      go : Same w.free_offset 0 → Same w.used_bins_top 0 → report_of w ≡ shown (report by_class l)
      go (same z e) k =
          let read : report_of w ≡ reported 0 0 = unfold report_of in rw e in
          read ∙ sym (ap shown (report_one_spare by_class class_laws l (omega (arith, S.spare.spares))))
      go (differ z e) (same t q) =
          let read : report_of w ≡ reported w.free_storage 0 = unfold report_of in rw (e, q) in
          read ∙ ap₂ reported S.total (sym (highest_none (top_none E w l S t))) ∙ sym (ap shown (more z))
      go (differ z e) (differ t q) = read ∙ ap₂ reported S.total (sym (highest_of top_class best)) ∙ sym (ap shown (more z))
        where
          best : Greatest (λ d. Holds l d) top_class
          best = top_some E w l S (omega arith)

          not_zero : get_or w.used_bins (high_bit w.used_bins_top) 0 ≢ 0
          not_zero = top_byte w.used_bins w.used_bins_top l.index (shelf_of E w l S).in_bits (omega arith)

          read : report_of w ≡ reported w.free_storage (value top_class)
          read = unfold report_of report_top report_leaf report_class in rw (
            e,
            q,
            ne_eqb (get_or w.used_bins (high_bit w.used_bins_top) 0) 0 not_zero,
            lt-ltb top_class classes_in_use (in_use top_class best.0),
          )
