-- What sound tables ask, told from the other side: a store that is sound for its ledger, and the same with one thing wrong and all the rest right,
-- for each part of Sound. Two records, which proofs/SoundMeans.antt makes. Assumes nothing.
use Rattle.std.specs.Prelude.{◌≡◌, ◌≢◌, cond, List, [], ◌∷◌, ◌++◌, ℕ, set, take}
use lib.Dec.{eqb}
use Rattle.ledger.specs.Ledger.{Ledger, setup, by_class, Stacks}
use Rattle.ledger.specs.Calls.{takes, answer, end}
use Rattle.tables.specs.Layout.{data_offset, data_size, bin_prev, bin_next, neighbor_prev, neighbor_next, used, put}
use Rattle.tables.specs.Words.{Words, Edition, with_nodes, with_tables, with_lists, with_pile, with_total}
use Rattle.tables.specs.Calls.{edition32}
use Rattle.tables.specs.Sound.{Sound}
use Rattle.tables.specs.Examples.{after_two, edition99}

-- the ledger of Examples' after_two: live regions of 20 and 30 under records 0 and 1, a free one of 50 under record 2, and 3, 4 and 5 spare
unfoldable pub of_two : Ledger Stacks
unfolding end answer
of_two = end (answer by_class 100 6) (takes 20 ∷ takes 30 ∷ []) (setup by_class 100 6)

abbrev pub Stands : Words → Type 0
Stands w = Sound edition32 w of_two

-- the same words, but for word k of record r; but for the bits; but for the class tops
abbrev pub but_word : (r k v : ℕ) → Words
but_word r k v = with_nodes after_two (put r k v after_two.nodes)

abbrev pub but_bits : (top : ℕ) → (leaves : List ℕ) → Words
but_bits top leaves = with_lists after_two top leaves after_two.bin_indices after_two.nodes

abbrev pub but_heads : (heads : List ℕ) → Words
but_heads heads = with_lists after_two after_two.used_bins_top after_two.used_bins heads after_two.nodes

-- an edition of 5 records
abbrev pub edition5 : Edition
edition5 = record { none = 4294967295; limit = 5; greatest = 4294967295; small = lib.Dec.lit≤ tt; fits = lib.Dec.lit≤ tt }

-- the same ledger, with record 2 in the stack of class 300 too, for which the words have no place
abbrev pub twice_stacked : Ledger Stacks
twice_stacked = record { line = of_two.line; pile = of_two.pile; index = λ c. cond (eqb c 300) (2 ∷ []) (of_two.index c) }

pub record AllRight : Type 0 where
  pub all_right : Stands after_two
  -- and all the rest is right below: with the right word, bits, tops, tables, pile or total put in, they are these words again
  pub right_word : (but_word 2 data_offset 50 ≡ after_two) × (but_word 1 used 1 ≡ after_two) × (but_word 2 data_size 50 ≡ after_two)
  pub right_bits : but_bits after_two.used_bins_top after_two.used_bins ≡ after_two
  pub right_heads : but_heads after_two.bin_indices ≡ after_two
  pub right_tables : with_tables after_two after_two.nodes after_two.pile ≡ after_two
  pub right_pile : with_pile after_two 2 after_two.pile ≡ after_two
  pub right_total : with_total after_two 50 ≡ after_two
  -- the two editions have another limit, or another greatest size, and nothing else
  pub only_limit : (edition5.none ≡ edition32.none) × (edition5.greatest ≡ edition32.greatest)
  pub only_greatest : (edition99.none ≡ edition32.none) × (edition99.limit ≡ edition32.limit)
  -- the ledger has one stack more
  pub only_300 : (c : ℕ) → c ≢ 300 → twice_stacked.index c ≡ of_two.index c
  pub line_and_pile : (twice_stacked.line ≡ of_two.line) × (twice_stacked.pile ≡ of_two.pile)

pub record OneWrong : Type 0 where
  -- ---- room: a word of a table missing, a word of an array too many, a count or a size that the edition has not
  pub nodes_short : ¬ Stands (with_tables after_two (take 47 after_two.nodes) after_two.pile)
  pub pile_short : ¬ Stands (with_tables after_two after_two.nodes (take 5 after_two.pile))
  pub a_head_more : ¬ Stands (but_heads (after_two.bin_indices ++ (0 ∷ [])))
  pub a_leaf_more : ¬ Stands (but_bits after_two.used_bins_top (after_two.used_bins ++ (0 ∷ [])))
  pub count_above : ¬ Sound edition5 after_two of_two
  pub size_above : ¬ Sound edition99 after_two of_two
  -- ---- the line, at its last region: offset, length, both links; and a used word that is neither 0 nor 1
  pub offset_off : ¬ Stands (but_word 2 data_offset 51)
  pub length_off : ¬ Stands (but_word 2 data_size 49)
  pub used_is_2 : ¬ Stands (but_word 1 used 2)
  pub chain_on : ¬ Stands (but_word 2 neighbor_next 6)
  pub chain_back : ¬ Stands (but_word 2 neighbor_prev 0)
  -- ---- the pile: two spare records change places, one too few, the lowest marked live
  pub pile_order : ¬ Stands (with_pile after_two 2 (4 ∷ 5 ∷ 3 ∷ 2 ∷ 1 ∷ 0 ∷ []))
  pub pile_top : ¬ Stands (with_pile after_two 1 after_two.pile)
  pub spare_live : ¬ Stands (but_word 5 used 1)
  -- ---- the class lists: both links of a list's one record, and a top of the last class, which holds nothing
  pub list_on : ¬ Stands (but_word 2 bin_next 6)
  pub list_back : ¬ Stands (but_word 2 bin_prev 6)
  pub last_top : ¬ Stands (but_heads (set after_two.bin_indices 255 2))
  -- ---- the bits: the last bit of the last leaf byte, with its top bit; the last top bit alone
  pub last_leaf_bit : ¬ Stands (but_bits 2147483656 (set after_two.used_bins 31 128))
  pub last_top_bit : ¬ Stands (but_bits 2147483656 after_two.used_bins)
  -- ---- the kept total; and the ledger itself, whose stacks hold a region once
  pub total_off : ¬ Stands (with_total after_two 49)
  pub stacked_twice : ¬ Sound edition32 after_two twice_stacked
