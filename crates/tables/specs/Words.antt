-- All the words of an allocator: the head's, and the two lent tables'. Assumes nothing.
use Rattle.std.specs.Prelude.{List, ℕ, ◌^◌, ◌≤◌, ◌<◌}

pub record Words : Type 0 where
  pub size : ℕ  -- size
  pub count : ℕ  -- max_allocs
  pub free_storage : ℕ  -- free_storage
  pub free_offset : ℕ  -- free_offset: the spare records less one
  pub used_bins_top : ℕ  -- used_bins_top: bit t is set where leaf byte t is not 0
  pub used_bins : List ℕ  -- used_bins: 32 bytes, bit i of byte t for class 8 t + i
  pub bin_indices : List ℕ  -- bin_indices: 256 words, the record on top of each class
  pub nodes : List ℕ  -- nodes, lent: 8 words to a record
  pub pile : List ℕ  -- free_nodes, lent: one word to a record

-- An edition: the marker of an absent link, the greatest count of records, and the greatest size of a store. Every count is below the marker, so
-- that no record is taken for an absent one, and every size is a 32-bit number, so that every region has a class in use.
pub record Edition : Type 0 where
  pub none : ℕ
  pub limit : ℕ
  pub greatest : ℕ
  pub small : limit ≤ none
  pub fits : greatest < 2 ^ 32

-- what a step must know: the count of records, and the marker
pub record Bounds : Type 0 where
  pub n : ℕ
  pub none : ℕ

abbrev pub bounds : Edition → Words → Bounds
bounds E w = record { n = w.count; none = E.none }

-- ---- the same words with one thing changed. Whoever changes words goes through these, so that a new word is named here alone
-- another free total
abbrev pub with_total : Words → (total : ℕ) → Words
with_total w total = record {
  size = w.size;
  count = w.count;
  free_storage = total;
  free_offset = w.free_offset;
  used_bins_top = w.used_bins_top;
  used_bins = w.used_bins;
  bin_indices = w.bin_indices;
  nodes = w.nodes;
  pile = w.pile;
}

-- other words in the records
abbrev pub with_nodes : Words → (nodes : List ℕ) → Words
with_nodes w nodes = record {
  size = w.size;
  count = w.count;
  free_storage = w.free_storage;
  free_offset = w.free_offset;
  used_bins_top = w.used_bins_top;
  used_bins = w.used_bins;
  bin_indices = w.bin_indices;
  nodes = nodes;
  pile = w.pile;
}

-- other tables, under the same head
abbrev pub with_tables : Words → (nodes pile : List ℕ) → Words
with_tables w nodes pile = record {
  size = w.size;
  count = w.count;
  free_storage = w.free_storage;
  free_offset = w.free_offset;
  used_bins_top = w.used_bins_top;
  used_bins = w.used_bins;
  bin_indices = w.bin_indices;
  nodes = nodes;
  pile = pile;
}

-- other class lists: their bits, their tops, and the records that they link
abbrev pub with_lists : Words → (top : ℕ) → (leaves heads nodes : List ℕ) → Words
with_lists w top leaves heads nodes = record {
  size = w.size;
  count = w.count;
  free_storage = w.free_storage;
  free_offset = w.free_offset;
  used_bins_top = top;
  used_bins = leaves;
  bin_indices = heads;
  nodes = nodes;
  pile = w.pile;
}

-- another pile
abbrev pub with_pile : Words → (off : ℕ) → (pile : List ℕ) → Words
with_pile w off pile = record {
  size = w.size;
  count = w.count;
  free_storage = w.free_storage;
  free_offset = off;
  used_bins_top = w.used_bins_top;
  used_bins = w.used_bins;
  bin_indices = w.bin_indices;
  nodes = w.nodes;
  pile = pile;
}

-- ---- words from scalars and lists, for rows
abbrev pub words_from : (size count total off top : ℕ) → (leaves heads nodes pile : List ℕ) → Words
words_from size count total off top leaves heads nodes pile = record {
  size = size;
  count = count;
  free_storage = total;
  free_offset = off;
  used_bins_top = top;
  used_bins = leaves;
  bin_indices = heads;
  nodes = nodes;
  pile = pile;
}
