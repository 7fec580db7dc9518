-- What can be said of lists holds. Assumes nothing.
use mathlib.Core.Path.{refl}
use Rattle.small_float.specs.Class.{down, value, rounded_up}
use Rattle.oracle_lists.specs.Verdicts.{size_verdict, class_verdict}
use Rattle.oracle_lists.specs.Facts.{none, number_more, ClassRows, SizeRows, ListFacts}
use Rattle.oracle_lists.proofs.Reading.{row_read_lem}
use Rattle.oracle_lists.proofs.JudgedOnce.{row_judged, comparison_reads}
use Rattle.oracle_lists.proofs.Adding.{adds_up}
use Rattle.oracle_lists.proofs.Writing.{number_written, row_written, any_digits, adds_up_exactly, hides_none, names_none}

class_rows : ClassRows
unfolding class_verdict value
class_rows = record {
  last_in_use = refl;
  not_its_value = refl;
  none_left = refl;
  some_left = refl;
  not_what_is_left = refl;
  last_of_the_list = refl;
  behind_the_list = refl;
}

size_rows : SizeRows
unfolding size_verdict down value rounded_up
size_rows = record {
  ordinary = refl;
  not_its_down = refl;
  not_its_up = refl;
  not_its_smallest = refl;
  last_with_a_class = refl;
  not_its_class = refl;
  not_its_store = refl;
  first_without = refl;
  last_without = refl;
  another_class = refl;
  another_store = refl;
  another_down = refl;
}

pub list_facts : ListFacts
list_facts = record {
  row_read_lem = row_read_lem;
  number_written = number_written;
  row_written = row_written;
  written_means = λ n w. w.decimal;
  row_written_means = λ ns w. w.numbers;
  any_digits = any_digits;
  may_be_none = none;
  may_be_more = λ text ns number n p q fits. number_more p q fits;
  comparison_reads = comparison_reads;
  row_judged = row_judged;
  class_rows = class_rows;
  size_rows = size_rows;
  adds_up_exactly = adds_up_exactly;
  hides_none = hides_none;
  names_none = names_none;
  adds_up = adds_up;
}
