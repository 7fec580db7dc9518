-- Setup on words, and what a reset leaves. Accepted, they write the head, word 6 of each record below the count, the seven words of record 0,
-- and the pile up to the count; every other word stays as it came. Refused, they write nothing. Assumes nothing.
use Rattle.std.specs.Prelude.{List, ℕ, zero, suc, ◌-◌, length, set, replicate}
use Rattle.ledger.specs.Ledger.{Answer, done}
use Rattle.tables.specs.Layout.{used, put}
use Rattle.tables.specs.Words.{Words, Edition, bounds}
use Rattle.tables.specs.Steps.{insert, pop_pile}
use Rattle.tables.specs.Gate.{setup_gate, gated}

-- the first k records marked not live
unfoldable pub wiped : ℕ → List ℕ → List ℕ
wiped zero nodes = nodes
wiped (suc k) nodes = put k used 0 (wiped k nodes)

-- the first k words of a pile of n records: n - 1 at the bottom, 0 on top
unfoldable pub piled : ℕ → ℕ → List ℕ → List ℕ
piled zero n pile = pile
piled (suc k) n pile = set (piled k n pile) k (n - k - 1)

-- every record spare
unfoldable pub blank : Edition → (size count : ℕ) → (nodes pile : List ℕ) → Words
unfolding wiped piled
blank E size count nodes pile = record {
  size = size;
  count = count;
  free_storage = size;
  free_offset = count - 1;
  used_bins_top = 0;
  used_bins = replicate 32 0;
  bin_indices = replicate 256 E.none;
  nodes = wiped count nodes;
  pile = piled count count pile;
}

-- record 0 leaves the pile and becomes the one free region
unfoldable pub fresh : Edition → (size count : ℕ) → (nodes pile : List ℕ) → Words
unfolding blank
fresh E size count nodes pile =
    let w = pop_pile (blank E size count nodes pile) in
    insert (bounds E w) w size 0 0 E.none E.none

-- What is lent to a setup, which takes no head: the places of the head's two arrays, and the two tables.
pub record Lent : Type 0 where
  pub bin_indices : List ℕ
  pub used_bins : List ℕ
  pub nodes : List ℕ
  pub pile : List ℕ

abbrev pub lent_of : (heads leaves nodes pile : List ℕ) → Lent
lent_of heads leaves nodes pile = record { bin_indices = heads; used_bins = leaves; nodes = nodes; pile = pile }

-- what a refused setup gives: scalars of zeros, so that every later call on them is refused as 6, and all that was lent as it came
abbrev pub zeros : Lent → Words
zeros lent = record {
  size = 0;
  count = 0;
  free_storage = 0;
  free_offset = 0;
  used_bins_top = 0;
  used_bins = lent.used_bins;
  bin_indices = lent.bin_indices;
  nodes = lent.nodes;
  pile = lent.pile;
}

-- setup by value is lent the tables alone; its arrays begin as zeros, so that refused it gives "one of zeros"
abbrev pub tables_alone : (nodes pile : List ℕ) → Lent
tables_alone nodes pile = lent_of (replicate 256 0) (replicate 32 0) nodes pile

unfoldable pub setup_words : Edition → (size count : ℕ) → Lent → Answer × Words
unfolding gated setup_gate fresh
setup_words E size count lent =
    gated (setup_gate E size count (length lent.nodes) (length lent.pile)) (zeros lent) (done, fresh E size count lent.nodes lent.pile)
