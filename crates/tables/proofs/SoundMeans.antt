-- What sound tables ask, part by part: the records of specs/SoundMeans.antt made. Assumes nothing.
use mathlib.Core.Path.{◌≡◌, refl, ap}
use mathlib.Core.Logic.{◌≢◌}
use mathlib.Core.Bool.{false}
use mathlib.Core.List.{List, [], ◌∷◌}
use Prim.Native.Nat.{ℕ, ◌≤◌}
use native.Mathlib.Omega.{arith}
use lib.Dec.{eqb}
use lib.ListN.{get_or, replicate}
use lib.Count.{count_leading_zeros, count_trailing_zeros}
use Rattle.basics.proofs.Decided.{same, differ, same?}
use Rattle.basics.proofs.Clash.{no_and_yes}
use Rattle.small_float.specs.Class.{rounded_up}
use Rattle.ledger.specs.Ledger.{on_top, without, lowest_from}
use Rattle.ledger.specs.Calls.{takes, answer, end}
use Rattle.tables.specs.Layout.{word, put, put_link, nodes_needed, pile_needed}
use Rattle.tables.specs.Steps.{insert_nodes, join_nodes, insert_at, insert, unlink_at, unlink, push_pile, pop_pile}
use Rattle.tables.specs.Linked.{mask, non_zero}
use Rattle.tables.specs.Setup.{tables_alone, setup_words}
use Rattle.tables.specs.Calls.{edition32, answer_words}
use Rattle.tables.specs.Examples.{desk}
use Rattle.tables.specs.SoundMeans.{of_two, twice_stacked, AllRight, OneWrong}
use Rattle.tables.proofs.OverRuns.{demand_2}

-- two numbers that are not the same
never : (a b : ℕ) → eqb a b ≡ false → a ≡ b → ⊥
never a b t e = elim (same? a b) [ same p q ↦ no_and_yes t q | differ n q ↦ n e ]

-- at another class than 300 no record comes on top
elsewhere : (c : ℕ) → c ≢ 300 → twice_stacked.index c ≡ of_two.index c
elsewhere c n = elim (same? c 300) [ same p e ↦ absurd (n p) | differ q e ↦ rw e refl ]

pub all_right : AllRight
unfolding of_two desk end answer answer_words setup_words rounded_up word put put_link insert insert_at insert_nodes join_nodes unlink unlink_at push_pile pop_pile
    mask non_zero count_leading_zeros count_trailing_zeros on_top without lowest_from
all_right = record {
  all_right =
      (demand_2 edition32 100 6 (tables_alone (replicate (nodes_needed 6) 7) (replicate (pile_needed 6) 7)) refl (takes 20 ∷ takes 30 ∷ [])).1;
  right_word = (refl, refl, refl);
  right_bits = refl;
  right_heads = refl;
  right_tables = refl;
  right_pile = refl;
  right_total = refl;
  only_limit = (refl, refl);
  only_greatest = (refl, refl);
  only_300 = elsewhere;
  line_and_pile = (refl, refl);
}

pub one_wrong : OneWrong
unfolding of_two end answer answer_words desk setup_words rounded_up word put put_link insert insert_at insert_nodes join_nodes unlink unlink_at push_pile pop_pile
    mask non_zero count_leading_zeros count_trailing_zeros on_top without lowest_from
one_wrong = record {
  nodes_short = λ s. absurd (omega (arith, s.room.tables.nodes_room));
  pile_short = λ s. absurd (omega (arith, s.room.tables.pile_room));
  a_head_more = λ s. never 257 256 refl s.room.of_head.heads_room;
  a_leaf_more = λ s. never 33 32 refl s.room.of_head.leaves_room;
  count_above = λ s. let l : 6 ≤ 5 = s.room.tables.count_high in absurd (omega (arith, l));
  size_above = λ s. let l : 100 ≤ 99 = s.room.of_head.size_fits in absurd (omega (arith, l));
  offset_off = λ s. never 51 50 refl s.line.reads.3.3.0;
  length_off = λ s. never 49 50 refl s.line.reads.3.3.1;
  used_is_2 = λ s. never 2 1 refl s.line.reads.3.2;
  chain_on = λ s. never 6 4294967295 refl s.line.chain.2.2.1;
  chain_back = λ s. never 0 1 refl s.line.chain.2.2.0;
  pile_order = λ s. never 5 4 refl (ap (λ (xs : List ℕ). get_or xs 1 0) s.spare.piled);
  pile_top = λ s. never 2 3 refl s.spare.spares;
  spare_live = λ s. never 1 0 refl (s.spare.dead 5 (omega arith));
  list_on = λ s. never 6 4294967295 refl (s.lists.lists 28).1;
  list_back = λ s. never 6 4294967295 refl (s.lists.lists 28).0;
  last_top = λ s. never 2 4294967295 refl (s.lists.tops 255 (omega arith));
  last_leaf_bit = λ s. never 128 0 refl (s.bits.leaf_bits 31 (omega arith));
  last_top_bit = λ s. never 2147483656 8 refl s.bits.top_bits;
  total_off = λ s. never 49 50 refl s.total;
  stacked_twice = λ s. never 1 0 refl (s.well.kept.exactly 300 2);
}
