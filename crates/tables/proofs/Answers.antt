-- The rows of specs/Examples.antt, computed. Assumes nothing.
use mathlib.Core.Path.{refl}
use Rattle.ledger.specs.Calls.{answers, end}
use lib.Count.{count_leading_zeros, count_trailing_zeros}
use Rattle.small_float.specs.Class.{rounded_up, value}
use Rattle.tables.specs.Layout.{word, put, put_link}
use Rattle.tables.specs.Steps.{insert_nodes, join_nodes, insert_at, insert, unlink_at, unlink, push_pile, pop_pile}
use Rattle.tables.specs.Gate.{gate, setup_gate}
use Rattle.tables.specs.Calls.{answer_words}
use Rattle.tables.specs.Examples.{desk, reporting, with_reports, RunOnWords, TwoTakes, NearlyRight}
use Rattle.tables.specs.Examples.{spoiled, Spoiled, PairsOnWords, spoiled_bits, SpoiledBits, GateRows}

pub nearly_right : NearlyRight
unfolding answer_words answers desk rounded_up value word put put_link insert insert_at insert_nodes join_nodes unlink unlink_at push_pile pop_pile
    count_leading_zeros count_trailing_zeros
nearly_right = record {
  next_top_bin = refl;
  floor_dropped = refl;
  top_bit_cleared = refl;
  pile_top = refl;
  linked_back = refl;
  spares_before_class = refl;
  grant_first = refl;
}

pub run_on_words : RunOnWords
unfolding answer_words answers end desk reporting with_reports rounded_up value word put put_link insert insert_at insert_nodes join_nodes unlink unlink_at
    push_pile pop_pile count_leading_zeros count_trailing_zeros
run_on_words = record { the_run = refl; then_reset = refl }

pub two_takes : TwoTakes
unfolding answer_words end desk rounded_up word put put_link insert insert_at insert_nodes join_nodes unlink_at pop_pile count_trailing_zeros
two_takes = record {
  size_is = refl;
  count_is = refl;
  total_is = refl;
  off_is = refl;
  top_is = refl;
  leaves_are = refl;
  heads_are = refl;
  nodes_are = refl;
  pile_is = refl;
}

pub spoiled_refused : Spoiled
unfolding answer_words end spoiled desk rounded_up value word put insert insert_at insert_nodes join_nodes put_link unlink unlink_at push_pile pop_pile
    count_leading_zeros count_trailing_zeros
spoiled_refused = record {
  too_short = refl;
  outside = refl;
  around = refl;
  total_past = refl;
  total_just = refl;
  right_size = refl;
  right_offset = refl;
  right_link = refl;
}

pub pairs_on_words : PairsOnWords
unfolding answer_words end desk rounded_up value word put insert insert_at insert_nodes join_nodes put_link unlink unlink_at push_pile pop_pile
    count_leading_zeros count_trailing_zeros
pairs_on_words = record {
  another's_offset = refl;
  its_length = refl;
  its_own = refl;
  asked_elsewhere = refl;
  asked_there = refl;
  not_live = refl;
  spoiled_offset = refl;
}

pub spoiled_bits_lem : SpoiledBits
unfolding answer_words spoiled_bits rounded_up value word put insert insert_at insert_nodes join_nodes put_link pop_pile count_leading_zeros count_trailing_zeros
spoiled_bits_lem = record { bare_top_bit = refl; bare_top_report = refl; no_top_bit = refl; size_without_class = refl; class_239 = refl; class_240 = refl }

pub gate_rows : GateRows
unfolding gate setup_gate
gate_rows = record { counts = refl; setup_counts = refl; greatest_tables = refl; nodes = refl; piles = refl; sizes = refl; order = refl }
