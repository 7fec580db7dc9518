-- The values of the sixteen classes from 240 on, computed. Assumes nothing.
use mathlib.Core.Path.{refl, sym, ap}
use Rattle.small_float.specs.Class.{value}
use Rattle.small_float.specs.LastValues.{last_values, value_row, LastValuesAreRight, ValueByValue}
use Rattle.small_float.proofs.Rows.{each_row}

pub last_values_are_right : LastValuesAreRight
unfolding value
last_values_are_right = refl

pub value_by_value : ValueByValue
value_by_value = record {
  classes = refl;
  each = λ before after class second e.
      ap (λ row. row.1) (sym (each_row value_row last_values before after (class, second) last_values_are_right e));
}
