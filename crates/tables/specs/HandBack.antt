-- Hand back on words: the plan reads and decides, the commit writes and cannot fail. Assumes nothing.
use Rattle.std.specs.Prelude.{Bool, true, false, cond, List, ℕ, ◌+◌, ltb, eqb}
use Rattle.basics.specs.Sum.{one}
use Rattle.ledger.specs.Ledger.{Answer, done, refused}
use Rattle.ledger.specs.Calls.{Token}
use Rattle.tables.specs.Layout.{data_offset, data_size, neighbor_prev, neighbor_next, used, word}
use Rattle.tables.specs.Words.{Words, Edition, Bounds, bounds, with_total}
use Rattle.tables.specs.Steps.{insert, unlink, push_pile}

-- the record is below the count and marked live
unfoldable pub is_live : (nodes : List ℕ) → (count r : ℕ) → Bool
is_live nodes count r = cond (ltb r count) (cond (eqb (word nodes used r) 0) false true) false

-- a neighbour that is a record and not live
unfoldable pub is_free : (nodes : List ℕ) → (count q : ℕ) → Bool
is_free nodes count q = cond (ltb q count) (eqb (word nodes used q) 0) false

-- What the merged region will be: its length, its offset, its neighbours p and x, and the kept total with it.
pub record Merged : Type 0 where
  pub length : ℕ
  pub start : ℕ
  pub before : ℕ
  pub after : ℕ
  pub total : ℕ

-- a refusal; or the two neighbours, whether each is free and so merged, and what comes of it
pub data BackPlan : Type 0 where
  stop : (number : ℕ) → BackPlan
  merge : (p x : ℕ) (p_free x_free : Bool) → Merged → BackPlan

-- ---- the plan. On sound tables it never stops with 6.
unfoldable pub merged_of : Words → (r p x : ℕ) → (p_free x_free : Bool) → Merged
merged_of w r p x p_free x_free = record {
  length = cond p_free (word w.nodes data_size p) 0 + word w.nodes data_size r
      + cond x_free (word w.nodes data_size x) 0;
  start = cond p_free (word w.nodes data_offset p) (word w.nodes data_offset r);
  before = cond p_free (word w.nodes neighbor_prev p) p;
  after = cond x_free (word w.nodes neighbor_next x) x;
  total = w.free_storage + word w.nodes data_size r;
}

-- neither the merged length nor the kept total passes the size, and the pile has room
unfoldable pub plan_merged : Words → (p x : ℕ) → (p_free x_free : Bool) → Merged → BackPlan
plan_merged w p x p_free x_free m =
    cond (ltb w.size m.length) (stop 6)
    (cond (ltb w.size m.total) (stop 6)
    (cond (ltb (w.free_offset + one p_free + one x_free) w.count) (merge p x p_free x_free m) (stop 6)))

unfoldable pub plan_sides : Words → (r p x : ℕ) → (p_free x_free : Bool) → BackPlan
unfolding plan_merged merged_of
plan_sides w r p x p_free x_free = plan_merged w p x p_free x_free (merged_of w r p x p_free x_free)

unfoldable pub plan_neighbours : Words → (r p x : ℕ) → BackPlan
unfolding plan_sides is_free
plan_neighbours w r p x = plan_sides w r p x (is_free w.nodes w.count p) (is_free w.nodes w.count x)

-- "refusal 8 is given exactly if the record is live but starts elsewhere; it comes after 5"
unfoldable pub plan_back : Words → Token → BackPlan
unfolding plan_neighbours is_live
plan_back w span =
    cond (is_live w.nodes w.count span.number)
    (cond (eqb (word w.nodes data_offset span.number) span.offset)
    (plan_neighbours w span.number (word w.nodes neighbor_prev span.number) (word w.nodes neighbor_next span.number))
    (stop 8))
    (stop 5)

-- ---- the commit
-- a free neighbour leaves its class, and its record goes onto the pile: the one before first
abbrev pub drop_if : Bounds → Bool → ℕ → Words → Words
drop_if K drops q w = cond drops (push_pile (unlink K w q) q) w

unfoldable pub merging : Bounds → Words → (r p x : ℕ) → (p_free x_free : Bool) → Merged → Words
merging K w r p x p_free x_free m =
    with_total
    (insert K (drop_if K x_free x (drop_if K p_free p w)) m.length m.start r m.before m.after)
    m.total

unfoldable pub do_back : Edition → Words → ℕ → BackPlan → Answer × Words
unfolding merging
do_back E w r (stop k) = (refused k, w)
do_back E w r (merge p x p_free x_free m) = (done, merging (bounds E w) w r p x p_free x_free m)
