-- The tally of a list adds up, because no counter of a list that short is full. Assumes nothing.
use Prim.Native.Nat.{ℕ, ◌+◌, ◌^◌, ◌≤◌, ◌<◌}
use mathlib.Core.Path.{◌≡◌, refl}
use mathlib.Core.Bool.{Bool, true, false, cond}
use mathlib.Core.List.{List, [], ◌∷◌}
use native.Mathlib.Omega.{arith}
use lib.ListN.{length}
use borrow.Author.Tests.{ne_eqb}
use Rattle.std.specs.Prelude.{Option, None, Some}
use Rattle.oracle_lists.specs.declared.tally.Verdict.{Verdict}
use Rattle.oracle_lists.specs.declared.tally.Verdict.TheVariants.{Agrees, Listed, Differs}
use Rattle.oracle_lists.specs.declared.tally.Tally.{Tally}
use Rattle.oracle_lists.specs.declared.classes.Comparison.{Comparison}
use Rattle.oracle_lists.specs.Rows.{fed, is_whole}
use Rattle.oracle_lists.specs.Tally.{one_more, first_from, counted}
use Rattle.oracle_lists.specs.Verdicts.{row_verdict}
use Rattle.oracle_lists.specs.Comparison.{no_bytes, after_byte, after_bytes}
use Rattle.oracle_lists.specs.Facts.{AddsUp}

one_more_lem : (n : ℕ) → n < 18_446_744_073_709_551_615 → one_more n ≡ n + 1
unfolding one_more
one_more_lem n h = rw (ne_eqb n 18_446_744_073_709_551_615 (λ e. omega arith))

first_named : (first : Option ℕ) (row : ℕ) → first_from first row ≡ None → ⊥
first_named None row e = cc
first_named (Some first) row e = cc

-- a row's number is not 0
not_0 : (first : Option ℕ) (row : ℕ) → (first ≡ Some 0 → ⊥) → (row ≡ 0 → ⊥) → first_from first row ≡ Some 0 → ⊥
not_0 None row p q e = q (cc)
not_0 (Some first) row p q e = p e

module _ (t : Tally) (sums : AddsUp t) (room : t.rows < 18_446_744_073_709_551_615) where
  row_counted : (v : Verdict) → (counted t v).rows ≡ t.rows + 1
  unfolding counted
  row_counted Agrees = one_more_lem t.rows room
  row_counted Listed = one_more_lem t.rows room
  row_counted Differs = one_more_lem t.rows room

  counted_adds : (v : Verdict) → AddsUp (counted t v)
  unfolding counted
  counted_adds Agrees = record {
    sum = omega (arith, sums.sum, one_more_lem t.rows room, one_more_lem t.agreed (omega (arith, sums.sum)));
    named = sums.named;
    numbered = sums.numbered;
  }
  counted_adds Listed = record {
    sum = omega (arith, sums.sum, one_more_lem t.rows room, one_more_lem t.listed (omega (arith, sums.sum)));
    named = sums.named;
    numbered = sums.numbered;
  }
  counted_adds Differs = record {
    sum = omega (arith, sums.sum, one_more_lem t.rows room, one_more_lem t.other (omega (arith, sums.sum)));
    named = (λ e. absurd (first_named t.first _ e), λ e. absurd (omega (arith, e, one_more_lem t.other (omega (arith, sums.sum)))));
    numbered = not_0 t.first (one_more t.rows) sums.numbered (λ e. omega (arith, e, one_more_lem t.rows room));
  }

  -- whether a row ended or not
  byte_adds : (v : Verdict) (whole : Bool) → AddsUp (cond whole (counted t v) t) × ((cond whole (counted t v) t).rows ≤ t.rows + 1)
  byte_adds v true = (counted_adds v, omega (arith, row_counted v))
  byte_adds v false = (sums, omega arith)

bytes_add : (p : Comparison) (bytes : List ℕ) → AddsUp p.tally → p.tally.rows + length bytes < 2 ^ 64 → AddsUp (after_bytes p bytes).tally
unfolding after_byte after_bytes
bytes_add p [] sums room = sums
bytes_add p (byte ∷ bytes) sums room =
    let r = fed p.reader byte in
    let one = byte_adds p.tally sums (omega arith) (row_verdict r) (is_whole r.state) in
    bytes_add (after_byte p byte) bytes one.0 (omega (arith, one.1))

pub adds_up : (bytes : List ℕ) → length bytes < 2 ^ 64 → AddsUp (after_bytes no_bytes bytes).tally
adds_up bytes h = bytes_add no_bytes bytes record { sum = refl; named = (λ e. refl, λ e. refl); numbered = λ e. cc } (omega arith)
