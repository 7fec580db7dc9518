-- Sound tables: the words in which a ledger stands. Document 01's sentence, part by part. Assumes nothing.
use Rattle.std.specs.Prelude.{◌≡◌, List, ℕ, ◌+◌, ◌*◌, ◌<◌, ◌≤◌, length, get_or}
use Rattle.basics.specs.Sum.{is, tally}
use Rattle.ledger.specs.Ledger.{Region, Ledger, free_len, by_class, Stacks}
use Rattle.ledger.specs.WellFormed.{WellFormed}
use Rattle.tables.specs.Layout.{bin_prev, bin_next, neighbor_prev, neighbor_next, used, word}
use Rattle.tables.specs.Words.{Words, Edition}
use Rattle.tables.specs.Room.{Room, OfHead}
use Rattle.tables.specs.Linked.{first, Linked, recs, Reads, stack_of, mask, full, non_zero}

-- "the head count is within refusal 6's limits"; the tables are as long as they must be, and the head's words are a head's
pub record RoomStands (E : Edition) (w : Words) : Type 0 where
  pub tables : Room E w.count (length w.nodes) (length w.pile)
  pub of_head : OfHead E w

-- the regions in their records, and "the neighbour chain .., links agreeing both ways"
pub record LineStands (none : ℕ) (nodes : List ℕ) (line : List Region) : Type 0 where
  pub reads : Reads nodes 0 line
  pub chain : Linked (word nodes neighbor_next) (word nodes neighbor_prev) none (recs line) none

-- "spare record numbers": the words of free_nodes up to free_offset, the last on top; "not marked live"
pub record PileStands (off : ℕ) (nodes pile spare : List ℕ) : Type 0 where
  pub piled : stack_of pile (length spare) ≡ spare
  pub spares : off + 1 ≡ length spare
  pub dead : (r : ℕ) → 1 ≤ tally (is r) spare → word nodes used r ≡ 0

-- "each class list .., links agreeing both ways", and its head
pub record ListsStand (none : ℕ) (nodes heads : List ℕ) (stacks : Stacks) : Type 0 where
  pub lists : (c : ℕ) → Linked (word nodes bin_next) (word nodes bin_prev) none (stacks c) none
  pub tops : (c : ℕ) → c < 256 → get_or heads c 0 ≡ first (stacks c) none

-- "a bit is set exactly where a list, or a leaf byte, is non-empty"
pub record BitsStand (leaves : List ℕ) (top : ℕ) (stacks : Stacks) : Type 0 where
  pub leaf_bits : (t : ℕ) → t < 32 → get_or leaves t 0 ≡ mask 8 (λ i. full (stacks (8 * t + i)))
  pub top_bits : top ≡ mask 32 (λ t. non_zero (get_or leaves t 0))

pub record Sound (E : Edition) (w : Words) (l : Ledger Stacks) : Type 0 where
  pub room : RoomStands E w
  -- the ledger is in order: spare numbers distinct, below the count and at least one; "every other record, at least one, occurs once" in
  -- the line, "which runs from 0 to the size", "no two free in a row"; each class's stack "holds exactly the free regions of its class"
  pub well : WellFormed by_class w.size w.count l
  pub spare : PileStands w.free_offset w.nodes w.pile l.pile
  pub line : LineStands E.none w.nodes l.line
  pub lists : ListsStand E.none w.nodes w.bin_indices l.index
  pub bits : BitsStand w.used_bins w.used_bins_top l.index
  -- "the kept free total is the true sum"
  pub total : w.free_storage ≡ tally free_len l.line
