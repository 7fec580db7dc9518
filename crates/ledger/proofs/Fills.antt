-- Live units and fill from the other side. Assumes nothing.
use mathlib.Core.Path.{◌≡◌, refl, subst, ◌∙◌}
use Prim.Native.Nat.{ℕ, zero, suc, ◌+◌, ◌*◌, ◌/◌, ◌≤◌, ◌<◌}
use native.Mathlib.Nat.{div-le_of_le-mul, mul-le-mul_left, div-mul-le_self, lt-mul-div-succ, mul_comm}
use native.Mathlib.Omega.{arith}
use mathlib.Core.Bool.{false}
use mathlib.Core.List.{List, [], ◌∷◌}
use lib.Dec.{eqb}
use borrow.Author.Tests.{ne_eqb}
use Rattle.basics.specs.Sum.{tally}
use Rattle.small_float.specs.Class.{rounded_up}
use Rattle.ledger.specs.Ledger.{Engine, Region, live, free, len, free_len, setup, on_top, without, lowest_from, highest}
use Rattle.ledger.specs.Fill.{live_len, live_units, fill_of}
use Rattle.ledger.specs.Calls.{Call, answer, answers, end, log, told}
use Rattle.ledger.specs.Laws.{Laws}
use Rattle.ledger.specs.FillMeans.{FloorMeans, FillMeans, FillRows}
use Rattle.ledger.specs.History.{Span, out_after}
use Rattle.ledger.proofs.CallsWell.{setup_well, end_well}
use Rattle.ledger.proofs.History.{history_sum}

pub live_free : (xs : List Region) → tally live_len xs + tally free_len xs ≡ tally len xs
live_free [] = refl
live_free (live n r ∷ xs) = omega (arith, live_free xs)
live_free (free n r ∷ xs) = omega (arith, live_free xs)

some_size : (n : ℕ) → eqb (suc n) 0 ≡ false
some_size n = ne_eqb (suc n) 0 (λ e. omega arith)

not_above : (units size : ℕ) → fill_of units size * size ≤ 256 * units
unfolding fill_of
not_above units zero = omega arith
not_above units (suc n) = rw (some_size n) (div-mul-le_self (256 * units) (suc n))

not_below : (units size : ℕ) → 0 < size → 256 * units < (fill_of units size + 1) * size
unfolding fill_of
not_below units zero h = absurd (omega arith)
not_below units (suc n) h = rw (some_size n) (subst (λ (x : ℕ). 256 * units < x) (mul_comm (suc n) (256 * units / suc n + 1)) (lt-mul-div-succ (256 * units) h))

of_none : (units : ℕ) → fill_of units 0 ≡ 0
unfolding fill_of
of_none units = refl

pub floor_means : FloorMeans
floor_means = record { not_above = not_above; not_below = not_below; of_none = of_none }

-- no more than all 256 parts are filled
pub parts_most : (units size : ℕ) → units ≤ size → 256 * units / size ≤ 256
parts_most units size h = div-le_of_le-mul size (subst (λ (x : ℕ). 256 * units ≤ x) (mul_comm 256 size) (mul-le-mul_left 256 h))

pub fill_most : (units size : ℕ) → units ≤ size → fill_of units size ≤ 256
unfolding fill_of
fill_most units zero h = omega arith
fill_most units (suc n) h = rw (some_size n) (parts_most units (suc n) h)

pub fill_means : (E : Engine) (laws : Laws E) (size count : ℕ) → 2 ≤ count → FillMeans E size count
fill_means E laws size count two = record {
  live_and_free = λ l w. live_free l.line ∙ w.lined.cover;
  fill_at_most = λ l w. fill_most (live_units l) size (omega (arith, live_free l.line, w.lined.cover));
  live_by_history = by_history;
  fill_told = λ l. unfold told in refl;
}
  where
    by_history : (cs : List Call)
        → live_units (end (answer E size count) cs (setup E size count))
        ≡ tally (λ (x : Span). x.size) (out_after (log (answer E size count) cs (setup E size count)) [])
    by_history cs =
        let l = end (answer E size count) cs (setup E size count) in
        let w = end_well E laws size count two cs (setup E size count) (setup_well E laws size count two) in
        omega (arith, history_sum E laws size count two cs, live_free l.line, w.lined.cover)

-- the rows, computed
pub fill_rows : FillRows
unfolding answer answers setup rounded_up on_top without lowest_from highest fill_of
fill_rows = record { along_the_run = refl; all_live = refl; no_size = refl; one_spare = refl }
