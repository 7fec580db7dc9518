-- What a plan has made sure of when it does not stop: all that its commit relies on. Assumes nothing.
use Rattle.std.specs.Prelude.{◌≡◌, Bool, ℕ, ◌+◌, ◌≤◌, ◌<◌}
use Rattle.basics.specs.Sum.{one}
use Rattle.ledger.specs.Calls.{Token}
use Rattle.tables.specs.Words.{Words}
use Rattle.tables.specs.Take.{TakePlan, whole, split, plan_take}
use Rattle.tables.specs.HandBack.{BackPlan, merge, Merged, plan_back}

-- a region of class c and record r, at offset o, is to be granted for s units
pub record GrantGuards (w : Words) (s c r o : ℕ) : Type 0 where
  pub class_low : c < 256
  pub record_low : r < w.count
  pub inside : o + s ≤ w.size
  pub enough : s ≤ w.free_storage
  pub spare : 1 ≤ w.free_offset

-- its remainder is to take record m
pub record SplitGuards (w : Words) (m : ℕ) : Type 0 where
  pub top_low : w.free_offset < w.count
  pub spare_low : m < w.count

abbrev pub TakeGuards : Words → ℕ → TakePlan → Type 0
TakeGuards w s (TakePlan.stop k) = Unit {0}
TakeGuards w s (whole c r o) = GrantGuards w s c r o
TakeGuards w s (split c r o rest m) = GrantGuards w s c r o × SplitGuards w m

-- record r is to be merged with those of its neighbours p and x that are free
pub record MergeGuards (w : Words) (r p x : ℕ) (p_free x_free : Bool) (m : Merged) : Type 0 where
  pub record_low : r < w.count
  pub before_low : 1 ≤ one p_free → p < w.count
  pub after_low : 1 ≤ one x_free → x < w.count
  pub length_fits : m.length ≤ w.size
  pub total_fits : m.total ≤ w.size
  pub pile_room : w.free_offset + one p_free + one x_free < w.count

abbrev pub BackGuards : Words → ℕ → BackPlan → Type 0
BackGuards w r (BackPlan.stop k) = Unit {0}
BackGuards w r (merge p x p_free x_free m) = MergeGuards w r p x p_free x_free m

-- ---- the same, from the other side: what holds of every plan that goes on, one by one
pub record GuardsMean : Type 0 where
  pub whole_sure : (w : Words) (s c r o : ℕ) → plan_take w s ≡ whole c r o
      → (c < 256) × (r < w.count) × (o + s ≤ w.size) × (s ≤ w.free_storage) × (1 ≤ w.free_offset)
  pub split_sure : (w : Words) (s c r o rest m : ℕ) → plan_take w s ≡ split c r o rest m
      → (c < 256) × (r < w.count) × (o + s ≤ w.size) × (s ≤ w.free_storage) × (1 ≤ w.free_offset) × (w.free_offset < w.count) × (m < w.count)
  pub merge_sure : (w : Words) (span : Token) (p x : ℕ) (p_free x_free : Bool) (m : Merged) → plan_back w span ≡ merge p x p_free x_free m
      → (span.number < w.count) × (1 ≤ one p_free → p < w.count) × (1 ≤ one x_free → x < w.count)
      × (m.length ≤ w.size) × (m.total ≤ w.size) × (w.free_offset + one p_free + one x_free < w.count)
