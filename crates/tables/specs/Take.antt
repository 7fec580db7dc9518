-- Take on words: the plan reads and decides, the commit writes and cannot fail. Assumes nothing.
use Rattle.std.specs.Prelude.{cond, ℕ, ◌+◌, ◌-◌, ltb, eqb, get_or}
use Rattle.small_float.specs.Class.{rounded_up}
use Rattle.ledger.specs.Ledger.{Answer, granted, refused}
use Rattle.tables.specs.Layout.{data_offset, data_size, bin_next, neighbor_next, used, word, put}
use Rattle.tables.specs.Words.{Words, Edition, Bounds, bounds, with_nodes, with_total}
use Rattle.tables.specs.Steps.{insert, unlink_at, pop_pile}
use Rattle.tables.specs.Search.{Found, class_is, no_class, bad_bits, find_for}

-- a refusal; or the class and record of a region, its offset, and that its length is just right;
-- or these with the length of the remainder and the spare record that it takes
pub data TakePlan : Type 0 where
  stop : (number : ℕ) → TakePlan
  whole : (c r o : ℕ) → TakePlan
  split : (c r o rest m : ℕ) → TakePlan

-- ---- the plan. On sound tables it never stops with 6.
-- a remainder needs the record on top of the pile
unfoldable pub plan_spare : Words → (c r o rest m : ℕ) → TakePlan
plan_spare w c r o rest m = cond (ltb w.free_offset w.count) (cond (ltb m w.count) (split c r o rest m) (stop 6)) (stop 6)

-- the region is long enough, lies in the store, and the kept total has room for the request
unfoldable pub plan_region : Words → (s c r z o : ℕ) → TakePlan
unfolding plan_spare
plan_region w s c r z o =
    cond (ltb z s) (stop 6)
    (cond (ltb w.size (o + z)) (stop 6)
    (cond (ltb w.free_storage s) (stop 6)
    (cond (eqb z s) (whole c r o)
    (plan_spare w c r o (z - s) (get_or w.pile w.free_offset 0)))))

-- the top of the class is a record
unfoldable pub plan_record : Words → (s c r : ℕ) → TakePlan
unfolding plan_region
plan_record w s c r =
    cond (ltb r w.count) (plan_region w s c r (word w.nodes data_size r) (word w.nodes data_offset r)) (stop 6)

-- there is a class, and the head has a place for it
unfoldable pub plan_class : Words → ℕ → Found → TakePlan
unfolding plan_record
plan_class w s (class_is c) = cond (ltb c 256) (plan_record w s c (get_or w.bin_indices c 0)) (stop 6)
plan_class w s no_class = stop 4
plan_class w s bad_bits = stop 6

-- more than one record is spare
unfoldable pub plan_take : Words → ℕ → TakePlan
unfolding plan_class find_for
plan_take w s = cond (eqb w.free_offset 0) (stop 3) (plan_class w s (find_for w.used_bins w.used_bins_top (rounded_up s)))

-- ---- the commit
-- the top of class c leaves its list and becomes live with length s
unfoldable pub granting : Bounds → Words → (s c r : ℕ) → Words
granting K w s c r =
    let u = unlink_at K w c K.none (word w.nodes bin_next r) in
    with_nodes u (put r used 1 (put r data_size s u.nodes))

-- the remainder takes record m off the pile and stands just after r
unfoldable pub splitting : Bounds → Words → (s c r o rest m : ℕ) → Words
unfolding granting
splitting K w s c r o rest m =
    insert K (pop_pile (granting K w s c r)) rest (o + s) m r (word w.nodes neighbor_next r)

unfoldable pub do_take : Edition → Words → ℕ → TakePlan → Answer × Words
unfolding granting splitting
do_take E w s (stop k) = (refused k, w)
do_take E w s (whole c r o) = (granted o r, with_total (granting (bounds E w) w s c r) (w.free_storage - s))
do_take E w s (split c r o rest m) = (granted o r, with_total (splitting (bounds E w) w s c r o rest m) (w.free_storage - s))
