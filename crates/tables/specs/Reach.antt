-- Which words a call can reach: those that its count of records needs, and no others. Assumes nothing.
use Rattle.std.specs.Prelude.{◌≡◌, ◌⊎◌, ◌≢◌, List, ℕ, ◌%◌, ◌≤◌, ◌<◌, length, get_or, take, drop}
use Rattle.tables.specs.Layout.{used, nodes_needed, pile_needed}
use Rattle.tables.specs.Words.{Words, with_tables}

-- ---- written: for tables of n records, what stays between w and v
pub record KeptBeyond (n : ℕ) (w v : Words) : Type 0 where
  pub size_is : v.size ≡ w.size
  pub count_is : v.count ≡ w.count
  -- the head's arrays stay arrays of 256 and 32 (a reset makes them anew)
  pub heads_length : length w.bin_indices ≡ 256 → length v.bin_indices ≡ 256
  pub leaves_length : length w.used_bins ≡ 32 → length v.used_bins ≡ 32
  pub nodes_length : length v.nodes ≡ length w.nodes
  pub pile_length : length v.pile ≡ length w.pile
  pub nodes_beyond : (i : ℕ) → nodes_needed n ≤ i → get_or v.nodes i 0 ≡ get_or w.nodes i 0
  pub pile_beyond : (i : ℕ) → pile_needed n ≤ i → get_or v.pile i 0 ≡ get_or w.pile i 0

-- ---- read: words with one head whose tables agree as far as n records need, whatever stands beyond
pub record AgreeOn (k : ℕ) (a b : List ℕ) : Type 0 where
  pub long : k ≤ length a
  pub long_too : k ≤ length b
  pub same : (i : ℕ) → i < k → get_or a i 0 ≡ get_or b i 0

pub record Agree (n : ℕ) (w v : Words) : Type 0 where
  pub one_head : with_tables w v.nodes v.pile ≡ v
  pub nodes_is : AgreeOn (nodes_needed n) w.nodes v.nodes
  pub pile_is : AgreeOn (pile_needed n) w.pile v.pile

-- ---- setup and reset: the words of `nodes` that they leave alone, of a table for n records: all but the used words, and record 0's first
-- seven
abbrev pub LeftAlone : ℕ → ℕ → Type 0
LeftAlone n i = (nodes_needed n ≤ i) ⊎ ((i ≡ 7) ⊎ ((8 ≤ i) × (i % 8 ≢ used)))

-- the words that they write: record 0's first seven, and the used word of every record below n
abbrev pub Written : ℕ → ℕ → Type 0
Written n i = (i < 7) ⊎ ((i < nodes_needed n) × (i % 8 ≡ used))

-- ---- the same, from the other side: which words exactly these definitions cover, up to the last
pub record ReachMeans : Type 0 where
  -- KeptBeyond: size and count, the lengths of the arrays and of the tables
  pub kept_head : {n : ℕ} {w v : Words} → KeptBeyond n w v → (v.size ≡ w.size) × (v.count ≡ w.count)
  pub kept_arrays : {n : ℕ} {w v : Words} → KeptBeyond n w v → (length w.bin_indices ≡ 256 → length v.bin_indices ≡ 256)
      × (length w.used_bins ≡ 32 → length v.used_bins ≡ 32)
  pub kept_lengths : {n : ℕ} {w v : Words} → KeptBeyond n w v → (length v.nodes ≡ length w.nodes) × (length v.pile ≡ length w.pile)
  -- and the whole rest of each table, from the first word that n records do not need
  pub kept_nodes : {n : ℕ} {w v : Words} → KeptBeyond n w v → drop (nodes_needed n) v.nodes ≡ drop (nodes_needed n) w.nodes
  pub kept_pile : {n : ℕ} {w v : Words} → KeptBeyond n w v → drop (pile_needed n) v.pile ≡ drop (pile_needed n) w.pile
  -- AgreeOn asks no more than that the first k words are the same, and Agree no more than that of the tables
  pub agree_on : (k : ℕ) (a b : List ℕ) → k ≤ length a → k ≤ length b → take k a ≡ take k b → AgreeOn k a b
  pub agree : (n : ℕ) (w : Words) (nodes pile : List ℕ) → AgreeOn (nodes_needed n) w.nodes nodes → AgreeOn (pile_needed n) w.pile pile
      → Agree n w (with_tables w nodes pile)
  -- and no less than that the heads are the same
  pub agree_head : {n : ℕ} {w v : Words} → Agree n w v → with_tables w v.nodes v.pile ≡ v
  -- LeftAlone: each word is left alone or written, and none is both
  pub one_or_other : (n i : ℕ) → 1 ≤ n → LeftAlone n i ⊎ Written n i
  pub never_both : (n i : ℕ) → 1 ≤ n → LeftAlone n i → Written n i → ⊥
