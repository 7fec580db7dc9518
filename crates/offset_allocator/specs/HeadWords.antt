-- A head by value and the two lent tables make the words of tables/specs. Assumes nothing.
use Rattle.std.specs.Prelude.{ℕ, List}
use Rattle.tables.specs.Words.{Words}
use Rattle.records.specs.InWords.{words_of}
use Rattle.offset_allocator.specs.declared.head.Head.{Head}

abbrev pub head_words : Head → (nodes free-nodes : List ℕ) → Words
head_words h nodes free-nodes = words_of h.totals h.bin_indices h.used_bins nodes free-nodes
