-- The rows of specs/Rows.antt, computed. Assumes nothing.
use mathlib.Core.Path.{◌≡◌, refl}
use mathlib.Core.List.{List, [], ◌∷◌}
use Prim.Native.Nat.{ℕ}
use lib.Count.{count_leading_zeros, count_trailing_zeros}
use Rattle.small_float.specs.Class.{rounded_up, value}
use Rattle.tables.specs.Layout.{word, put, put_link}
use Rattle.tables.specs.Steps.{insert_nodes, join_nodes, insert_at, insert, unlink_at, unlink, push_pile, pop_pile}
use Rattle.tables.specs.Gate.{setup_gate}
use Rattle.tables.specs.Setup.{setup_words}
use Rattle.tables.specs.Calls.{answer_words}
use Rattle.audit_words.specs.Audit.{audit_words}
use Rattle.packets.specs.declared.Store.TheVariants.{OnChip, External}
use Rattle.packets.specs.Calls.{packet_words, set_up_words, set_up_both_words, audit_in}
use Rattle.packets.specs.Promise.{made_on}
use Rattle.packets.specs.Runs.{Auditing}
use Rattle.packets.specs.Shelf.{contents, shelf, filled_since}
use Rattle.packets.specs.Stretch as stretch
use Rattle.packets.specs.Stretch.{PacketStretch, all_told}
use Rattle.packets.specs.Rows.{takes, gives_back, fills, reads, asks_length, asks_report}
use Rattle.packets.specs.Rows.{answers_of, left, history, fresh, with_packets, RowsMean, PacketRows}

-- five lists are the same if they are in one list
parts_of : {a b c d e f g h i j : List ℕ} → ◌≡◌ {A = List (List ℕ)} (a ∷ b ∷ c ∷ d ∷ e ∷ []) (f ∷ g ∷ h ∷ i ∷ j ∷ [])
    → (a ≡ f) × (b ≡ g) × (c ≡ h) × (d ≡ i) × (e ≡ j)
parts_of z = (cc, cc, cc, cc, cc)

pub rows_mean : RowsMean
rows_mean = record {
  from_there = λ t asked expected e. e;
  answering = λ asked expected e. e;
  leaving_bytes = λ asked on_chip external e. e;
  unchanged = λ t asked expected e. e;
  makes = λ c t on_chip external e. e;
  shelved_is = λ s o r asked. refl;
  rest_is = λ k m e. parts_of e;
}

a_stretch : PacketStretch [] []
    (history (takes 1 ∷ takes 9 ∷ takes 2 ∷ takes 99 ∷ fills OnChip 1 1 (1 ∷ []) ∷ fills OnChip 1 1 (1 ∷ 2 ∷ 3 ∷ []) ∷ reads External 0 0
    ∷ asks_length OnChip 0 0 ∷ asks_report External ∷ Auditing OnChip 4
    ∷ gives_back OnChip 1 1 ∷ gives_back OnChip 0 0 ∷ gives_back External 0 0 ∷ gives_back External 0 0 ∷ []) fresh)
unfolding history left fresh packet_words set_up_both_words audit_in setup_words setup_gate answer_words audit_words rounded_up value word
    put put_link insert insert_at insert_nodes join_nodes unlink unlink_at push_pile pop_pile count_leading_zeros count_trailing_zeros
a_stretch =
    stretch.grants_on_chip (stretch.grants_outside (stretch.grants_on_chip (stretch.refuses (stretch.fills (stretch.fills (stretch.reads
    (stretch.measures (stretch.reports (stretch.audits
    (stretch.returns-on-chip (stretch.returns-on-chip (stretch.returns-outside (stretch.refuses stretch.ended)))))))))))))

pub packet_rows : PacketRows
unfolding answers_of left history fresh with_packets packet_words set_up_words set_up_both_words audit_in made_on setup_words setup_gate answer_words audit_words rounded_up
    value word put put_link insert insert_at insert_nodes join_nodes unlink unlink_at push_pile pop_pile count_leading_zeros count_trailing_zeros contents shelf filled_since
    all_told
packet_rows = record {
  begun = refl;
  begun_bytes = (refl, refl);
  on_chip_first = refl;
  external_on_4 = refl;
  external_on_3 = refl;
  three_then_four = refl;
  four_then_three = refl;
  four_then_four = (refl, refl);
  three_then_three = (refl, refl);
  not_on_6 = (refl, refl);
  not_on_6_above = (refl, refl);
  not_on_6_of_bits = (refl, refl);
  not_on_2_nodes = (refl, refl);
  not_on_2_pile = (refl, refl);
  external_6 = refl;
  external_2 = refl;
  marked_on_chip = (refl, refl);
  marked_external = (refl, refl);
  marked_amid = (refl, refl);
  marked_amid_external = (refl, refl);
  marked_whole = (refl, refl);
  marked_none = (refl, refl);
  marked_each = (refl, refl);
  fills_fewer = refl;
  fills_all = refl;
  fills_one_more = (refl, refl);
  fills_none = (refl, refl);
  fills_twice = refl;
  fills_in_place = (refl, refl);
  fills_in_place_external = (refl, refl);
  span_holds = refl;
  after_all_else = (refl, refl);
  after_6 = (refl, refl);
  after_2 = (refl, refl);
  reads_either = refl;
  reads_amid = refl;
  only_asked = (refl, refl);
  of_no_bytes = refl;
  of_no_bytes_left = (refl, refl);
  handed_back_lem = refl;
  handed_back_bytes = (refl, refl);
  granted_again = refl;
  granted_again_bytes = (refl, refl);
  elsewhere = (refl, refl);
  on_chip_short = (refl, refl);
  external_short = (refl, refl);
  both_empty = (refl, refl);
  nine_before_6 = (refl, refl);
  nine_before_2 = (refl, refl);
  nine_before_other's_6 = (refl, refl);
  nine_before_other's_2 = (refl, refl);
  long_enough = refl;
  not_there = (refl, refl);
  not_there_nor_bytes = (refl, refl);
  passes_the_size = (refl, refl);
  passes_the_size_external = (refl, refl);
  ends_with_the_size = refl;
  the_size_counts = (refl, refl);
  both_refused_external_1 = refl;
  both_refused_on_chip_1 = refl;
  both_refused_external_2 = refl;
  both_refused_on_chip_2 = refl;
  both_order = refl;
  both_zeros = refl;
  both_rest = (refl, refl);
  both_nine = refl;
  both_nine_external = refl;
  both_nine_first = refl;
  both_again = refl;
  both_again_bytes = (refl, refl);
  both_of_0 = refl;
  on_chip_alone = refl;
  external_alone = refl;
  one_by_one = refl;
  on_chip_again = refl;
  external_again = refl;
  on_chip_refused = refl;
  external_refused = refl;
  one_nine = refl;
  one_nine_external = refl;
  one_nine_first = refl;
  other's_nine = refl;
  other's_nine_on_chip = refl;
  one_bytes = (refl, refl);
  audited = refl;
  scratch_kept = refl;
  scratch_cleared = refl;
  made_on_4 = (refl, refl);
  made_on_3 = (refl, refl);
  made_on_chip = (refl, refl);
  made_on_6 = (refl, refl);
  made_on_9 = (refl, refl);
  made_by_hand_back = (refl, refl);
  made_by_fill = (refl, refl);
  made_by_read = (refl, refl);
  made_by_length = (refl, refl);
  made_by_report = (refl, refl);
  shelved_front = refl;
  shelved_17 = refl;
  shelved_elsewhere = refl;
  shelved_outside = refl;
  shelved_other's = refl;
  shelved_pair = refl;
  shelved_empty = refl;
  shelved_beside = refl;
  shelved_back = refl;
  shelved_again = refl;
  shelved_anew = refl;
  shelved_no_store = refl;
  shelved_neither = refl;
  shelved_still = refl;
  shelved_refused = refl;
  filled_since_lem = refl;
  a_stretch = a_stretch;
  told_lengths = refl;
}
