-- A write changes no word but its own: for each step, an index of `nodes` that it does not write to keeps its word, and so do the lengths.
-- Assumes nothing.
use mathlib.Core.Path.{◌≡◌, refl, ◌∙◌}
use mathlib.Core.Logic.{◌≢◌}
use mathlib.Core.Bool.{Bool, true, false, cond}
use mathlib.Core.List.{List}
use Prim.Native.Nat.{ℕ, zero, suc, ◌+◌, ◌*◌, ◌-◌, ◌/◌, ◌≤◌, ◌<◌}
use native.Mathlib.Omega.{arith}
use lib.Dec.{ltb}
use lib.ListN.{length, get_or, length-set}
use lib.Seq.{get_or-set_other}
use Rattle.basics.proofs.Decided.{below, beyond, below?}
use Rattle.small_float.specs.Class.{down}
use Rattle.tables.specs.Layout.{data_offset, data_size, bin_prev, bin_next, neighbor_prev, neighbor_next, used, put, put_link}
use Rattle.tables.specs.Words.{Words, Bounds}
use Rattle.tables.specs.Steps.{insert_nodes, join_nodes, insert_at, insert, unlink_at}
use Rattle.tables.specs.Setup.{wiped, piled}
use Rattle.tables.proofs.Fields.{length_put, length_put_link}

pub put_elsewhere : (r k v : ℕ) (nodes : List ℕ) (i : ℕ) → i ≢ 8 * r + k → get_or (put r k v nodes) i 0 ≡ get_or nodes i 0
unfolding put
put_elsewhere r k v nodes i h = get_or-set_other nodes (8 * r + k) i v 0 h

put_link_elsewhere : (count r k v : ℕ) (nodes : List ℕ) (i : ℕ) → (r < count → i ≢ 8 * r + k)
    → get_or (put_link count r k v nodes) i 0 ≡ get_or nodes i 0
unfolding put_link
put_link_elsewhere count r k v nodes i h = elim (below? r count) [
  | below l e ↦ rw e (put_elsewhere r k v nodes i (h l))
  | beyond l e ↦ rw e refl
]

cond_length : (t : Bool) (l m : List ℕ) → length m ≡ length l → length (cond t l m) ≡ length l
cond_length true l m e = refl
cond_length false l m e = e

-- ---- insert: the seven words of record m, and three links to it
module _ (K : Bounds) (m s o h p x : ℕ) (nodes : List ℕ) (i : ℕ) (m-apart : (k : ℕ) → k < 7 → i ≢ 8 * m + k) where
  insert_nodes_elsewhere : (h < K.n → i ≢ 8 * h + bin_prev) → get_or (insert_nodes K m s o h p x nodes) i 0 ≡ get_or nodes i 0
  unfolding insert_nodes
  insert_nodes_elsewhere h-apart =
      put_link_elsewhere K.n h bin_prev m _ i h-apart
      ∙ put_elsewhere m used 0 _ i (m-apart used (omega arith))
      ∙ put_elsewhere m neighbor_next x _ i (m-apart neighbor_next (omega arith))
      ∙ put_elsewhere m neighbor_prev p _ i (m-apart neighbor_prev (omega arith))
      ∙ put_elsewhere m bin_next h _ i (m-apart bin_next (omega arith))
      ∙ put_elsewhere m bin_prev K.none _ i (m-apart bin_prev (omega arith))
      ∙ put_elsewhere m data_size s _ i (m-apart data_size (omega arith))
      ∙ put_elsewhere m data_offset o nodes i (m-apart data_offset (omega arith))

module _ (K : Bounds) (w : Words) (s o m p x : ℕ) where
  pub insert_elsewhere : (i : ℕ) → ((k : ℕ) → k < 7 → i ≢ 8 * m + k)
      → (get_or w.bin_indices (down s) 0 < K.n → i ≢ 8 * get_or w.bin_indices (down s) 0 + bin_prev)
      → (p < K.n → i ≢ 8 * p + neighbor_next)
      → (x < K.n → i ≢ 8 * x + neighbor_prev)
      → get_or (insert K w s o m p x).nodes i 0 ≡ get_or w.nodes i 0
  unfolding insert insert_at join_nodes
  insert_elsewhere i m-apart h-apart p-apart x-apart =
      put_link_elsewhere K.n x neighbor_prev m _ i x-apart
      ∙ put_link_elsewhere K.n p neighbor_next m _ i p-apart
      ∙ insert_nodes_elsewhere K m s o (get_or w.bin_indices (down s) 0) p x w.nodes i m-apart h-apart

  pub insert_nodes_length : length (insert K w s o m p x).nodes ≡ length w.nodes
  unfolding insert insert_at join_nodes insert_nodes
  insert_nodes_length = simp (length_put, length_put_link)

  pub insert_heads_length : length (insert K w s o m p x).bin_indices ≡ length w.bin_indices
  unfolding insert insert_at
  insert_heads_length = length-set w.bin_indices (down s) m

  pub insert_leaves_length : length (insert K w s o m p x).used_bins ≡ length w.used_bins
  unfolding insert insert_at
  insert_leaves_length = cond_length (ltb (get_or w.bin_indices (down s) 0) K.n) w.used_bins _ (length-set w.used_bins (down s / 8) _)

-- ---- unlink: two links
module _ (K : Bounds) (w : Words) (c p x : ℕ) where
  pub unlink_at_elsewhere : (i : ℕ) → (p < K.n → i ≢ 8 * p + bin_next) → (x < K.n → i ≢ 8 * x + bin_prev)
      → get_or (unlink_at K w c p x).nodes i 0 ≡ get_or w.nodes i 0
  unfolding unlink_at
  unlink_at_elsewhere i p-apart x-apart =
      put_link_elsewhere K.n x bin_prev p _ i x-apart ∙ put_link_elsewhere K.n p bin_next x w.nodes i p-apart

  pub unlink_at_nodes_length : length (unlink_at K w c p x).nodes ≡ length w.nodes
  unfolding unlink_at
  unlink_at_nodes_length = simp length_put_link

  pub unlink_at_heads_length : length (unlink_at K w c p x).bin_indices ≡ length w.bin_indices
  unfolding unlink_at
  unlink_at_heads_length = cond_length (ltb p K.n) w.bin_indices _ (length-set w.bin_indices c x)

  pub unlink_at_leaves_length : length (unlink_at K w c p x).used_bins ≡ length w.used_bins
  unfolding unlink_at
  unlink_at_leaves_length =
      cond_length (ltb p K.n) w.used_bins _ (cond_length (ltb x K.n) w.used_bins _ (length-set w.used_bins (c / 8) _))

-- ---- setup's two loops: the used words, and the pile
pub wiped_elsewhere : (k : ℕ) (nodes : List ℕ) (i : ℕ) → ((r : ℕ) → r < k → i ≢ 8 * r + used)
    → get_or (wiped k nodes) i 0 ≡ get_or nodes i 0
unfolding wiped
wiped_elsewhere zero nodes i h = refl
wiped_elsewhere (suc k) nodes i h =
    put_elsewhere k used 0 (wiped k nodes) i (h k (omega arith)) ∙ wiped_elsewhere k nodes i (λ r l. h r (omega arith))

pub piled_beyond : (k n : ℕ) (pile : List ℕ) (i : ℕ) → k ≤ i → get_or (piled k n pile) i 0 ≡ get_or pile i 0
unfolding piled
piled_beyond zero n pile i h = refl
piled_beyond (suc k) n pile i h =
    get_or-set_other (piled k n pile) k i (n - k - 1) 0 (omega arith) ∙ piled_beyond k n pile i (omega arith)
