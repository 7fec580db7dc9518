-- The steps that the calls are made of. None of them touches size, count or total. Assumes nothing.
use Rattle.std.specs.Prelude.{cond, List, ℕ, ◌+◌, ◌-◌, ◌/◌, ◌%◌, ◌^◌, ltb, eqb, get_or, set}
use Rattle.std.specs.Int.Bits.{bit_or, bit_and}
use Rattle.small_float.specs.Class.{down}
use Rattle.tables.specs.Layout.{data_offset, data_size, bin_prev, bin_next, neighbor_prev, neighbor_next, used, word, put, put_link}
use Rattle.tables.specs.Words.{Words, Bounds, with_lists, with_pile}

-- bit k of a number set; cleared, in a number of b bits
abbrev pub set_bit : ℕ → ℕ → ℕ
set_bit m k = bit_or m (2 ^ k)

abbrev pub clear_bit : (b m k : ℕ) → ℕ
clear_bit b m k = bit_and m ((2 ^ b - 1) - 2 ^ k)

module _ (K : Bounds) where
  -- ---- insert_node_into_bin: record m becomes a free region of length s at offset o between the neighbours p and x, and goes on top of
  -- class c, whose old top is h
  -- the seven words of record m, and the old top's link back to it
  unfoldable pub insert_nodes : (m s o h p x : ℕ) → List ℕ → List ℕ
  insert_nodes m s o h p x nodes =
      put_link K.n h bin_prev m
      (put m used 0
      (put m neighbor_next x
      (put m neighbor_prev p
      (put m bin_next h (put m bin_prev K.none (put m data_size s (put m data_offset o nodes)))))))

  -- the neighbours' links to record m
  unfoldable pub join_nodes : (m p x : ℕ) → List ℕ → List ℕ
  join_nodes m p x nodes = put_link K.n x neighbor_prev m (put_link K.n p neighbor_next m nodes)

  -- a class that was empty has its bit set, and the bit of its leaf byte
  unfoldable pub insert_at : Words → (s o c h m p x : ℕ) → Words
  insert_at w s o c h m p x =
      with_lists w
      (cond (ltb h K.n) w.used_bins_top (set_bit w.used_bins_top (c / 8)))
      (cond (ltb h K.n) w.used_bins (set w.used_bins (c / 8) (set_bit (get_or w.used_bins (c / 8) 0) (c % 8))))
      (set w.bin_indices c m)
      (join_nodes m p x (insert_nodes m s o h p x w.nodes))

  unfoldable pub insert : Words → (s o m p x : ℕ) → Words
  insert w s o m p x = insert_at w s o (down s) (get_or w.bin_indices (down s) 0) m p x

  -- ---- remove_node_from_bin, but for the pile: a record of class c, with p before it and x after it in its list, leaves the list;
  -- if it was the only one its bit is cleared, and where its leaf byte is then 0 the byte's bit too
  unfoldable pub unlink_at : Words → (c p x : ℕ) → Words
  unlink_at w c p x =
      with_lists w
      (cond (ltb p K.n) w.used_bins_top
      (cond (ltb x K.n) w.used_bins_top
      (cond (eqb (clear_bit 8 (get_or w.used_bins (c / 8) 0) (c % 8)) 0) (clear_bit 32 w.used_bins_top (c / 8)) w.used_bins_top)))
      (cond (ltb p K.n) w.used_bins
      (cond (ltb x K.n) w.used_bins
      (set w.used_bins (c / 8) (clear_bit 8 (get_or w.used_bins (c / 8) 0) (c % 8)))))
      (cond (ltb p K.n) w.bin_indices (set w.bin_indices c x))
      (put_link K.n x bin_prev p (put_link K.n p bin_next x w.nodes))

  unfoldable pub unlink : Words → ℕ → Words
  unlink w r = unlink_at w (down (word w.nodes data_size r)) (word w.nodes bin_prev r) (word w.nodes bin_next r)

-- ---- the pile: a record goes onto it; its top leaves it
unfoldable pub push_pile : Words → ℕ → Words
push_pile w r = with_pile w (w.free_offset + 1) (set w.pile (w.free_offset + 1) r)

unfoldable pub pop_pile : Words → Words
pop_pile w = with_pile w (w.free_offset - 1) w.pile
