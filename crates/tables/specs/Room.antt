-- What a call needs before it can look at a word: a count within its limits, tables long enough for it, and the words of a head. Assumes nothing.
use Rattle.std.specs.Prelude.{◌≡◌, ℕ, ◌≤◌, length}
use Rattle.tables.specs.Layout.{nodes_needed, pile_needed}
use Rattle.tables.specs.Words.{Words, Edition}

-- the count is within its limits and the tables are long enough: what an open gate says
pub record Room (E : Edition) (count nodes pile : ℕ) : Type 0 where
  pub count_low : 2 ≤ count
  pub count_high : count ≤ E.limit
  pub nodes_room : nodes_needed count ≤ nodes
  pub pile_room : pile_needed count ≤ pile

-- what the types of a head say of its words: a size of the edition, 256 heads and 32 leaf bytes
pub record OfHead (E : Edition) (w : Words) : Type 0 where
  pub size_fits : w.size ≤ E.greatest
  pub heads_room : length w.bin_indices ≡ 256
  pub leaves_room : length w.used_bins ≡ 32
