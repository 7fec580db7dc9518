-- The search for a class, by the two levels of bits: the top word, and the leaf bytes. Assumes nothing.
use Rattle.std.specs.Prelude.{cond, List, ℕ, ◌+◌, ◌*◌, ◌-◌, ◌/◌, ◌%◌, ◌^◌, ltb, eqb, get_or}
use Rattle.std.proofs.Math.Option.{Option, none, some}
use Rattle.std.specs.Int.Count.{count_leading_zeros, count_trailing_zeros}

-- what a search comes to: a class that holds something; none does; or the bits contradict each other
pub data Found : Type 0 where
  class_is : (c : ℕ) → Found
  no_class : Found
  bad_bits : Found

-- the lowest set bit of a 32-bit word at or above i; 32 where there is none
unfoldable pub low_from : (m i : ℕ) → ℕ
low_from m i = cond (eqb (m / 2 ^ i) 0) 32 (i + count_trailing_zeros 32 (m / 2 ^ i))

-- the lowest class of top bin t, whose leaf byte is m: a byte of 0 under a set top bit is a contradiction
unfoldable pub leaf_low : (t m : ℕ) → Found
leaf_low t m = cond (eqb m 0) bad_bits (class_is (8 * t + count_trailing_zeros 32 m))

-- the lowest class of top bin t, if there is such a bin
unfoldable pub low_in_bin : (leaves : List ℕ) → (t : ℕ) → Found
unfolding leaf_low
low_in_bin leaves t = cond (ltb t 32) (leaf_low t (get_or leaves t 0)) no_class

-- leaf l of top bin t if there is one; otherwise the search goes on at the next top bin, and there from its lowest leaf
unfoldable pub leaf_or_above : (leaves : List ℕ) → (top t l : ℕ) → Found
unfolding low_in_bin low_from
leaf_or_above leaves top t l = cond (ltb l 8) (class_is (8 * t + l)) (low_in_bin leaves (low_from top (t + 1)))

-- the lowest class from c on that holds something
unfoldable pub find_class : (leaves : List ℕ) → (top c : ℕ) → Found
unfolding leaf_or_above low_from
find_class leaves top c = leaf_or_above leaves top (c / 8) (low_from (get_or leaves (c / 8) 0) (c % 8))

-- from what a size is rounded up to, the lowest class from there on that holds something; from no class, none
unfoldable pub find_for : (leaves : List ℕ) → (top : ℕ) → Option ℕ → Found
unfolding find_class
find_for leaves top (some c) = find_class leaves top c
find_for leaves top none = no_class

-- the highest set bit of a 32-bit word that is not 0
unfoldable pub high_bit : ℕ → ℕ
high_bit m = 31 - count_leading_zeros 32 m
