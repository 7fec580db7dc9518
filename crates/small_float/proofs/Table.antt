-- Document 01's rows marked P, computed. Assumes nothing.
use mathlib.Core.Path.{refl, sym, ap}
use Rattle.small_float.specs.Class.{down, rounded_up}
use Rattle.small_float.specs.Table.{rows_marked_p, row_of, RowsAreRight, RowByRow}
use Rattle.small_float.proofs.Rows.{each_row}

pub rows_are_right : RowsAreRight
unfolding down rounded_up
rows_are_right = refl

pub row_by_row : RowByRow
row_by_row = record {
  twelve = refl;
  sizes = refl;
  each = λ before after size second third e.
      let own = each_row row_of rows_marked_p before after (size, second, third) rows_are_right e in
      (ap (λ row. row.1) (sym own), ap (λ row. row.2) (sym own));
}
