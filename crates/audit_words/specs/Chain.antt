-- "every other record .. occurs once in the neighbour chain, which runs from 0 to the size, links agreeing both ways, no two free in a row".
-- Assumes nothing.
use Rattle.std.specs.Prelude.{Bool, not, ◌&&◌, ◌||◌, cond, List, ℕ, zero, suc, ◌+◌, ltb, eqb, get_or}
use Rattle.tables.specs.Layout.{data_offset, data_size, neighbor_prev, neighbor_next, used, word}
use Rattle.tables.specs.Words.{Edition}
use Rattle.audit_words.specs.declared.Walk.{Walk}

-- ---- where the chain begins: at the record that is not spare and has nothing before it
unfoldable pub starts_chain : Edition → (nodes marks : List ℕ) → ℕ → Bool
starts_chain E nodes marks r =
    eqb (get_or marks r 0) 0
    && eqb (word nodes neighbor_prev r) E.none

-- the first such record of k from i on, or the marker of an absent link
unfoldable pub first_record : Edition → ℕ → (nodes marks : List ℕ) → ℕ → ℕ
unfolding starts_chain
first_record E zero nodes marks i = E.none
first_record E (suc k) nodes marks i = cond (starts_chain E nodes marks i) i (first_record E k nodes marks (i + 1))

-- ---- one region
-- the used word is 0 or 1; "no two free in a row": not 0 after a 0
unfoldable pub good_used : (before this : ℕ) → Bool
good_used before this =
    (eqb this 0 || eqb this 1)
    && not (eqb this 0 && eqb before 0)

-- the region at which the walk stands
unfoldable pub good_region : (nodes marks : List ℕ) → (count size : ℕ) → Walk → Bool
unfolding good_used
good_region nodes marks count size w =
    -- a record below the count, and not spare
    ltb w.here count
    && eqb (get_or marks w.here 0) 0
    -- "links agreeing both ways": it links back to the one by which it was reached
    && eqb (word nodes neighbor_prev w.here) w.prev
    -- "runs from 0 to the size": it begins where the one before it ends, and ends in the store
    && eqb (word nodes data_offset w.here) w.offset
    && not (ltb size (w.offset + word nodes data_size w.here))
    -- "no two free in a row"
    && good_used w.used (word nodes used w.here)

-- past that region to the next: records, free regions and free lengths are counted
unfoldable pub advanced : (nodes : List ℕ) → Walk → Walk
advanced nodes w = record {
  prev = w.here;
  here = word nodes neighbor_next w.here;
  offset = w.offset + word nodes data_size w.here;
  used = word nodes used w.here;
  records = w.records + 1;
  frees = cond (eqb (word nodes used w.here) 0) (w.frees + 1) w.frees;
  total = cond (eqb (word nodes used w.here) 0) (w.total + word nodes data_size w.here) w.total;
}

-- ---- the walk
-- before the first record: nothing met, and as if a live region stood before it
abbrev pub started : Edition → ℕ → Walk
started E first = record { prev = E.none; here = first; offset = 0; used = 1; records = 0; frees = 0; total = 0 }

-- at most k regions on, as far as they are good
unfoldable pub walk_from : ℕ → (nodes marks : List ℕ) → (count size : ℕ) → Walk → Walk
unfolding good_region advanced
walk_from zero nodes marks count size w = w
walk_from (suc k) nodes marks count size w =
    cond (good_region nodes marks count size w) (walk_from k nodes marks count size (advanced nodes w)) w

-- what is asked of the place where the walk ended
unfoldable pub walk_ends : Edition → (size count total spares : ℕ) → Walk → Bool
walk_ends E size count total spares w =
    -- it is the end of the chain, and there the end of the store: "runs from 0 to the size"
    eqb w.here E.none
    && eqb w.offset size
    -- "every other record .. occurs once in the neighbour chain": those met and the spare ones make the count
    && eqb (w.records + spares) count
    -- "the kept free total is the true sum"
    && eqb w.total total
