-- Which words of `nodes` a step writes, and what it leaves there: one record for each step, made from the laws of single writes.
-- Assumes nothing.
use mathlib.Core.Path.{◌≡◌, ◌∙◌}
use mathlib.Core.Logic.{◌≢◌}
use mathlib.Core.Bool.{true}
use mathlib.Core.List.{List}
use Prim.Native.Nat.{ℕ, ◌≤◌, ◌<◌}
use lib.ListN.{length}
use borrow.Author.Tests.{lt-ltb}
use Rattle.tables.specs.Layout.{data_offset, data_size, bin_prev, bin_next, neighbor_prev, neighbor_next, used, word, put, put_link, nodes_needed}
use Rattle.tables.specs.Words.{Bounds}
use Rattle.tables.specs.Steps.{insert_nodes, join_nodes}
use Rattle.tables.proofs.Fields.{fits, fits_below, fields, length_put, length_put_link}

-- ---- what a region's record says, and the links that join it to its neighbours, are as they were
pub record RegionKept (nodes after : List ℕ) (q : ℕ) : Type 0 where
  pub offset_kept : word after data_offset q ≡ word nodes data_offset q
  pub size_kept : word after data_size q ≡ word nodes data_size q
  pub used_kept : word after used q ≡ word nodes used q

pub record JoinKept (nodes after : List ℕ) (q : ℕ) : Type 0 where
  pub next_kept : word after neighbor_next q ≡ word nodes neighbor_next q
  pub prev_kept : word after neighbor_prev q ≡ word nodes neighbor_prev q

region_then : {nodes between after : List ℕ} {q : ℕ} → RegionKept nodes between q → RegionKept between after q → RegionKept nodes after q
region_then a b = record {
  offset_kept = b.offset_kept ∙ a.offset_kept;
  size_kept = b.size_kept ∙ a.size_kept;
  used_kept = b.used_kept ∙ a.used_kept;
}

join_then : {nodes between after : List ℕ} {q : ℕ} → JoinKept nodes between q → JoinKept between after q → JoinKept nodes after q
join_then a b = record { next_kept = b.next_kept ∙ a.next_kept; prev_kept = b.prev_kept ∙ a.prev_kept }

-- ---- record m is put in as a free region of length s at offset o between p and x, above h in its class
pub record Inserted (K : Bounds) (m s o h p x : ℕ) (nodes after : List ℕ) : Type 0 where
  pub same_length : length after ≡ length nodes
  pub own_offset : word after data_offset m ≡ o
  pub own_size : word after data_size m ≡ s
  pub own_used : word after used m ≡ 0
  pub own_bin_next : word after bin_next m ≡ h
  pub own_bin_prev : m ≢ h → word after bin_prev m ≡ K.none
  pub own_next : m ≢ p → word after neighbor_next m ≡ x
  pub own_prev : m ≢ x → word after neighbor_prev m ≡ p
  pub h_prev : h < K.n → word after bin_prev h ≡ m
  pub p_next : p < K.n → word after neighbor_next p ≡ m
  pub x_prev : x < K.n → word after neighbor_prev x ≡ m
  pub region_kept : (q : ℕ) → q ≢ m → RegionKept nodes after q
  pub bin_next_kept : (q : ℕ) → q ≢ m → word after bin_next q ≡ word nodes bin_next q
  pub bin_prev_kept : (q : ℕ) → q ≢ m → q ≢ h → word after bin_prev q ≡ word nodes bin_prev q
  pub next_kept : (q : ℕ) → q ≢ m → q ≢ p → word after neighbor_next q ≡ word nodes neighbor_next q
  pub prev_kept : (q : ℕ) → q ≢ m → q ≢ x → word after neighbor_prev q ≡ word nodes neighbor_prev q

pub inserted : (K : Bounds) (m s o h p x : ℕ) (nodes : List ℕ) → nodes_needed K.n ≤ length nodes → m < K.n
    → Inserted K m s o h p x nodes (join_nodes K m p x (insert_nodes K m s o h p x nodes))
unfolding join_nodes insert_nodes
inserted K m s o h p x nodes room m_below = record {
  same_length = simp (length_put, length_put_link);
  own_offset = simp (fields, m_fits);
  own_size = simp (fields, m_fits);
  own_used = simp (fields, m_fits);
  own_bin_next = simp (fields, m_fits);
  own_bin_prev = λ d. simp (fields, m_fits);
  own_next = λ d. simp (fields, m_fits);
  own_prev = λ d. simp (fields, m_fits);
  h_prev = λ l. simp (fields, fits_at h l, lt-ltb h K.n l);
  p_next = λ l. simp (fields, fits_at p l, lt-ltb p K.n l);
  x_prev = λ l. simp (fields, fits_at x l, lt-ltb x K.n l);
  region_kept = λ q d. record { offset_kept = simp fields; size_kept = simp fields; used_kept = simp fields };
  bin_next_kept = λ q d. simp fields;
  bin_prev_kept = λ q d e. simp fields;
  next_kept = λ q d e. simp fields;
  prev_kept = λ q d e. simp fields;
}
  where
    fits_at : (q : ℕ) → q < K.n → fits nodes q ≡ true
    fits_at q l = fits_below nodes K.n q room l

    m_fits : fits nodes m ≡ true
    m_fits = fits_at m m_below

-- ---- a record between p and x leaves its class list
pub record Unlinked (K : Bounds) (p x : ℕ) (nodes after : List ℕ) : Type 0 where
  pub same_length : length after ≡ length nodes
  pub p_next : p < K.n → word after bin_next p ≡ x
  pub x_prev : x < K.n → word after bin_prev x ≡ p
  pub bin_next_kept : (q : ℕ) → q ≢ p → word after bin_next q ≡ word nodes bin_next q
  pub bin_prev_kept : (q : ℕ) → q ≢ x → word after bin_prev q ≡ word nodes bin_prev q
  pub region_kept : (q : ℕ) → RegionKept nodes after q
  pub join_kept : (q : ℕ) → JoinKept nodes after q

pub unlinked : (K : Bounds) (p x : ℕ) (nodes : List ℕ) → nodes_needed K.n ≤ length nodes
    → Unlinked K p x nodes (put_link K.n x bin_prev p (put_link K.n p bin_next x nodes))
unlinked K p x nodes room = record {
  same_length = simp length_put_link;
  p_next = λ l. simp (fields, fits_at p l, lt-ltb p K.n l);
  x_prev = λ l. simp (fields, fits_at x l, lt-ltb x K.n l);
  bin_next_kept = λ q d. simp fields;
  bin_prev_kept = λ q d. simp fields;
  region_kept = λ q. record { offset_kept = simp fields; size_kept = simp fields; used_kept = simp fields };
  join_kept = λ q. record { next_kept = simp fields; prev_kept = simp fields };
}
  where
    fits_at : (q : ℕ) → q < K.n → fits nodes q ≡ true
    fits_at q l = fits_below nodes K.n q room l

-- ---- record r becomes live with length s
pub record Livened (r s : ℕ) (nodes after : List ℕ) : Type 0 where
  pub own_size : word after data_size r ≡ s
  pub own_used : word after used r ≡ 1
  pub own_offset_kept : word after data_offset r ≡ word nodes data_offset r
  pub region_kept : (q : ℕ) → q ≢ r → RegionKept nodes after q
  pub join_kept : (q : ℕ) → JoinKept nodes after q

pub livened : (r s : ℕ) (nodes : List ℕ) → fits nodes r ≡ true → Livened r s nodes (put r used 1 (put r data_size s nodes))
livened r s nodes r-fits = record {
  own_size = simp (fields, r-fits);
  own_used = simp (fields, r-fits);
  own_offset_kept = simp fields;
  region_kept = λ q d. record { offset_kept = simp fields; size_kept = simp fields; used_kept = simp fields };
  join_kept = λ q. record { next_kept = simp fields; prev_kept = simp fields };
}

-- the same where it has left its class list just before
pub unlinked_livened : {K : Bounds} {p x r s : ℕ} {nodes between after : List ℕ} → Unlinked K p x nodes between → Livened r s between after
    → Livened r s nodes after
unlinked_livened {r = r} u v = record {
  own_size = v.own_size;
  own_used = v.own_used;
  own_offset_kept = v.own_offset_kept ∙ (u.region_kept r).offset_kept;
  region_kept = λ q d. region_then (u.region_kept q) (v.region_kept q d);
  join_kept = λ q. join_then (u.join_kept q) (v.join_kept q);
}
