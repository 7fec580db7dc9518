-- The rows of the smallest-store question, computed. Assumes nothing.
use mathlib.Core.Path.{refl}
use Rattle.small_float.specs.Class.{value, rounded_up}
use Rattle.small_float.specs.Smallest.{SmallestRows}

pub smallest_rows : SmallestRows
unfolding value rounded_up
smallest_rows = record {
  of_17 = record { number = refl; figure = refl };
  the_last = record { number = refl; figure = refl };
  the_next = record { number = refl; figure = refl };
}
