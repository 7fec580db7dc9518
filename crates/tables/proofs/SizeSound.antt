-- The words know which records are live: a size query on sound words answers as the ledger. Assumes nothing.
use mathlib.Core.Path.{◌≡◌, ap, sym, ◌∙◌}
use mathlib.Core.Bool.{true, false}
use mathlib.Core.List.{List, []}
use Prim.Native.Nat.{ℕ, ◌<◌}
use native.Mathlib.Omega.{arith}
use borrow.Author.Tests.{lt-ltb, eq-eqb, ne_eqb}
use Rattle.basics.specs.Sum.{one, tally}
use Rattle.basics.proofs.Decided.{below, beyond, below?}
use Rattle.basics.proofs.Sums.{tally_reverse_aux}
use Rattle.basics.proofs.Counts.{is_own, one_below}
use Rattle.ledger.specs.Ledger.{Ledger, Region, live, free, len, size_of, by_class, Stacks}
use Rattle.ledger.specs.Calls.{span_of}
use Rattle.ledger.specs.WellFormed.{has}
use Rattle.ledger.specs.Claims.{Live}
use Rattle.ledger.proofs.Places.{Between, sum_at, between_at}
use Rattle.ledger.proofs.Find.{Found, missing, at, found?}
use Rattle.ledger.proofs.Cases.{LiveCase, is_live_case, is_elsewhere, not_live, live_case}
use Rattle.tables.specs.Layout.{data_offset, used, word}
use Rattle.tables.specs.Words.{Words, Edition}
use Rattle.tables.specs.HandBack.{is_live}
use Rattle.tables.specs.Questions.{length_of}
use Rattle.tables.specs.Sound.{Sound}
use Rattle.tables.proofs.Lines.{reads_at}

module _ (E : Edition) (w : Words) (l : Ledger Stacks) (S : Sound E w l) (r : ℕ) where
  -- ---- a record that is not live: it is spare, or free, or no record
  unmarked : word w.nodes used r ≡ 0 → is_live w.nodes w.count r ≡ false
  unfolding is_live
  unmarked e = elim (below? r w.count) [ below k q ↦ rw (q, e) | beyond k q ↦ rw q ]

  pub known_idle : ¬ Live r l → is_live w.nodes w.count r ≡ false
  known_idle h = go (found? r l.line)
    where
      go : Found r [] l.line → is_live w.nodes w.count r ≡ false
      go (missing m z) = elim (below? r w.count) [
        | below k e ↦ unmarked (S.spare.dead r (omega (arith, S.well.lined.once r, ap one e)))
        | beyond k e ↦ unfold is_live in rw e
      ]
      go (at before (free n q) after m b e z) =
          unmarked (ap (word w.nodes used) (sym e) ∙ (reads_at w.nodes b S.line.reads).1.2)
      go (at before (live n q) after m b e z) = absurd (h (n, tally len before, between_at (rw e at b)))

  -- ---- a record that is
  pub known_live : {n : ℕ} {before after : List Region} → Between before (live n r) after l.line → is_live w.nodes w.count r ≡ true
  known_live place =
      let r_below : r < w.count = one_below r w.count (omega (arith, S.well.lined.once r, sum_at place (has r), is_own r)) in
      unfold is_live in rw (lt-ltb r w.count r_below, (reads_at w.nodes place S.line.reads).1.2)

  -- its offset word is where it starts
  pub known_start : {n : ℕ} {before after : List Region} → Between before (live n r) after l.line
      → word w.nodes data_offset r ≡ tally len before
  known_start {before = before} place = omega (arith, (reads_at w.nodes place S.line.reads).1.0, tally_reverse_aux len before [])

  pub length_is_told : (o : ℕ) → length_of w (span_of o r) ≡ size_of o r l
  unfolding length_of
  length_is_told o = go (live_case by_class S.well o r)
    where
      go : LiveCase by_class o r l → length_of w (span_of o r) ≡ size_of o r l
      go (is_live_case n before after place p e q) =
          rw (known_live place, known_start place, eq-eqb (tally len before) o p, q, (reads_at w.nodes place S.line.reads).1.1)
      go (is_elsewhere n before after place p e q) = rw (known_live place, known_start place, ne_eqb (tally len before) o p, q)
      go (not_live h e q) = rw (known_idle h, q)
