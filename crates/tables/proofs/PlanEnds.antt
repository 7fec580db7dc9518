-- What holds of each end that a choice, a gated call or a plan can come to holds of the whole. Assumes nothing.
use mathlib.Core.Path.{◌≡◌, refl}
use mathlib.Core.Bool.{Bool, true, false, cond}
use Prim.Native.Nat.{ℕ, zero, suc, ◌+◌, ◌-◌}
use lib.Dec.{ltb, eqb}
use lib.ListN.{get_or}
use Rattle.basics.specs.Sum.{one}
use Rattle.small_float.specs.Class.{rounded_up}
use Rattle.ledger.specs.Ledger.{Answer, refused}
use Rattle.tables.specs.Layout.{data_offset, data_size, word}
use Rattle.tables.specs.Words.{Words}
use Rattle.tables.specs.Gate.{gated}
use Rattle.tables.specs.Search.{Found, class_is, no_class, bad_bits, find_for}
use Rattle.tables.specs.Take.{TakePlan, whole, split, plan_spare, plan_region, plan_record, plan_class, plan_take}
use Rattle.tables.specs.HandBack.{BackPlan, merge, Merged, is_free, merged_of, plan_merged, plan_sides, plan_neighbours}

-- what holds of both arms holds of the choice
pub either : {A : Type 0} (P : A → Type 0) (t : Bool) {a b : A} → P a → P b → P (cond t a b)
either P true x y = x
either P false x y = y

-- ---- the gate: its refusals, and what lies behind it
pub gated_ends : {Lent : Type 0} (P : Answer × Lent → Type 0) (g : ℕ) (w : Lent) (o : Answer × Lent) → ((k : ℕ) → P (refused (suc k), w))
    → (g ≡ 0 → P o) → P (gated g w o)
unfolding gated
gated_ends P zero w o shut opened = opened refl
gated_ends P (suc g) w o shut opened = shut g

-- ---- take
-- once there are spares, it does not stop with 3
module _ (w : Words) (s : ℕ) (P : TakePlan → Type 0) (at-4 : P (TakePlan.stop 4)) (at-6 : P (TakePlan.stop 6))
    (at-whole : (c r o : ℕ) → P (whole c r o)) (at_split : (c r o rest m : ℕ) → P (split c r o rest m)) where
  spare_ends : (c r o rest m : ℕ) → P (plan_spare w c r o rest m)
  unfolding plan_spare
  spare_ends c r o rest m =
      either P (ltb w.free_offset w.count) (either P (ltb m w.count) (at_split c r o rest m) at-6) at-6

  region_ends : (c r z o : ℕ) → P (plan_region w s c r z o)
  unfolding plan_region
  region_ends c r z o =
      either P (ltb z s) at-6
      (either P (ltb w.size (o + z)) at-6
      (either P (ltb w.free_storage s) at-6
      (either P (eqb z s) (at-whole c r o) (spare_ends c r o (z - s) (get_or w.pile w.free_offset 0)))))

  record_ends : (c r : ℕ) → P (plan_record w s c r)
  unfolding plan_record
  record_ends c r =
      either P (ltb r w.count) (region_ends c r (word w.nodes data_size r) (word w.nodes data_offset r)) at-6

  pub class_ends : (found : Found) → P (plan_class w s found)
  unfolding plan_class
  class_ends (class_is c) = either P (ltb c 256) (record_ends c (get_or w.bin_indices c 0)) at-6
  class_ends no_class = at-4
  class_ends bad_bits = at-6

pub take_ends : (w : Words) (s : ℕ) (P : TakePlan → Type 0) → P (TakePlan.stop 3) → P (TakePlan.stop 4) → P (TakePlan.stop 6)
    → ((c r o : ℕ) → P (whole c r o)) → ((c r o rest m : ℕ) → P (split c r o rest m)) → P (plan_take w s)
unfolding plan_take
take_ends w s P at-3 at-4 at-6 at-whole at_split =
    either P (eqb w.free_offset 0) at-3 (class_ends w s P at-4 at-6 at-whole at_split (find_for w.used_bins w.used_bins_top (rounded_up s)))

-- ---- hand back
-- of a live record, it does not stop with 5
module _ (w : Words) (r : ℕ) (P : BackPlan → Type 0) (at-6 : P (BackPlan.stop 6))
    (at-merge : (p x : ℕ) (p_free x_free : Bool) (m : Merged) → P (merge p x p_free x_free m)) where
  merged_ends : (p x : ℕ) (p_free x_free : Bool) (m : Merged) → P (plan_merged w p x p_free x_free m)
  unfolding plan_merged
  merged_ends p x p_free x_free m =
      either P (ltb w.size m.length) at-6
      (either P (ltb w.size m.total) at-6
      (either P (ltb (w.free_offset + one p_free + one x_free) w.count) (at-merge p x p_free x_free m) at-6))

  pub neighbours_ends : (p x : ℕ) → P (plan_neighbours w r p x)
  unfolding plan_neighbours plan_sides
  neighbours_ends p x =
      merged_ends p x (is_free w.nodes w.count p) (is_free w.nodes w.count x)
      (merged_of w r p x (is_free w.nodes w.count p) (is_free w.nodes w.count x))
