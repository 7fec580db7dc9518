-- A plan that does not stop has passed its guards. Assumes nothing.
use mathlib.Core.Path.{◌≡◌, refl, sym, subst}
use mathlib.Core.Bool.{Bool, true, false, cond}
use mathlib.Core.List.{List}
use Prim.Native.Nat.{ℕ, ◌+◌, ◌-◌, ◌≤◌, ◌<◌}
use native.Mathlib.Omega.{arith}
use lib.Dec.{ltb, eqb}
use lib.ListN.{get_or}
use borrow.Author.Tests.{ltb-true}
use Rattle.basics.specs.Sum.{one}
use Rattle.basics.proofs.Decided.{Same, same, differ, same?, Below, below, beyond, below?}
use Rattle.small_float.specs.Class.{rounded_up}
use Rattle.ledger.specs.Calls.{Token}
use Rattle.tables.specs.Layout.{data_offset, data_size, neighbor_prev, neighbor_next, used, word}
use Rattle.tables.specs.Words.{Words}
use Rattle.tables.specs.Search.{Found, class_is, no_class, bad_bits, find_for}
use Rattle.tables.specs.Take.{TakePlan, plan_spare, plan_region, plan_record, plan_class, plan_take}
use Rattle.tables.specs.HandBack.{BackPlan, Merged, is_live, is_free, merged_of, plan_merged, plan_sides, plan_neighbours, plan_back}
use Rattle.tables.specs.Guards.{GrantGuards, SplitGuards, TakeGuards, MergeGuards, BackGuards, GuardsMean}
use Rattle.tables.proofs.PlanEnds.{either}

-- ---- take
module _ (w : Words) (s : ℕ) (spare : 1 ≤ w.free_offset) where
  spare_guards : (c r o rest m : ℕ) → c < 256 → r < w.count → o + s ≤ w.size → s ≤ w.free_storage
      → TakeGuards w s (plan_spare w c r o rest m)
  unfolding plan_spare
  spare_guards c r o rest m h1 h2 h3 h4 = go (below? w.free_offset w.count) (below? m w.count)
    where
      go : Below w.free_offset w.count → Below m w.count → TakeGuards w s (plan_spare w c r o rest m)
      go (beyond a e) b = rw e tt
      go (below a e) (beyond b f) = rw (e, f) tt
      go (below a e) (below b f) = rw (e, f) (
        record { class_low = h1; record_low = h2; inside = h3; enough = h4; spare = spare },
        record { top_low = a; spare_low = b },
      )

  region_guards : (c r z o : ℕ) → c < 256 → r < w.count → TakeGuards w s (plan_region w s c r z o)
  unfolding plan_region
  region_guards c r z o h1 h2 = go (below? z s) (below? w.size (o + z)) (below? w.free_storage s) (same? z s)
    where
      go : Below z s → Below w.size (o + z) → Below w.free_storage s → Same z s → TakeGuards w s (plan_region w s c r z o)
      go (below x e) b t q = rw e tt
      go (beyond x e) (below b f) t q = rw (e, f) tt
      go (beyond x e) (beyond b f) (below t g) q = rw (e, f, g) tt
      go (beyond x e) (beyond b f) (beyond t g) (same q h) =
          rw (e, f, g, h) record { class_low = h1; record_low = h2; inside = omega arith; enough = t; spare = spare }
      go (beyond x e) (beyond b f) (beyond t g) (differ q h) =
          rw (e, f, g, h) (spare_guards c r o (z - s) (get_or w.pile w.free_offset 0) h1 h2 (omega arith) t)

  record_guards : (c r : ℕ) → c < 256 → TakeGuards w s (plan_record w s c r)
  unfolding plan_record
  record_guards c r h = go (below? r w.count)
    where
      go : Below r w.count → TakeGuards w s (plan_record w s c r)
      go (below a e) = rw e (region_guards c r (word w.nodes data_size r) (word w.nodes data_offset r) h a)
      go (beyond a e) = rw e tt

  class_guards : (found : Found) → TakeGuards w s (plan_class w s found)
  unfolding plan_class
  class_guards (class_is c) = go (below? c 256)
    where
      go : Below c 256 → TakeGuards w s (plan_class w s (class_is c))
      go (below a e) = rw e (record_guards c (get_or w.bin_indices c 0) a)
      go (beyond a e) = rw e tt
  class_guards no_class = tt
  class_guards bad_bits = tt

pub take_guards : (w : Words) (s : ℕ) → TakeGuards w s (plan_take w s)
unfolding plan_take
take_guards w s = go (same? w.free_offset 0)
  where
    go : Same w.free_offset 0 → TakeGuards w s (plan_take w s)
    go (same a e) = rw e tt
    go (differ a e) = rw e (class_guards w s (omega arith) (find_for w.used_bins w.used_bins_top (rounded_up s)))

-- ---- hand back
-- a record that is live, or free, is below the count
pub live_low : (nodes : List ℕ) (count r : ℕ) → is_live nodes count r ≡ true → r < count
unfolding is_live
live_low nodes count r = go (ltb r count) refl
  where
    go : (t : Bool) → ltb r count ≡ t → cond t (cond (eqb (word nodes used r) 0) false true) false ≡ true → r < count
    go true e h = ltb-true r count e
    go false e h = absurd (let z : ◌≡◌ {A = ℕ} 0 1 = cc in omega arith)

pub free_low : (nodes : List ℕ) (count q : ℕ) → 1 ≤ one (is_free nodes count q) → q < count
unfolding is_free
free_low nodes count q = go (ltb q count) refl
  where
    go : (t : Bool) → ltb q count ≡ t → 1 ≤ one (cond t (eqb (word nodes used q) 0) false) → q < count
    go true e h = ltb-true q count e
    go false e h = absurd (omega arith)

pub free_below : (nodes : List ℕ) (count q : ℕ) → is_free nodes count q ≡ true → q < count
free_below nodes count q e = free_low nodes count q (subst (λ (b : Bool). 1 ≤ one b) (sym e) (omega arith))

merged_guards : (w : Words) (r p x : ℕ) (p_free x_free : Bool) (m : Merged) → r < w.count
    → (1 ≤ one p_free → p < w.count) → (1 ≤ one x_free → x < w.count)
    → BackGuards w r (plan_merged w p x p_free x_free m)
unfolding plan_merged
merged_guards w r p x p_free x_free m h1 h2 h3 =
    go (below? w.size m.length) (below? w.size m.total) (below? (w.free_offset + one p_free + one x_free) w.count)
  where
    go : Below w.size m.length → Below w.size m.total → Below (w.free_offset + one p_free + one x_free) w.count
        → BackGuards w r (plan_merged w p x p_free x_free m)
    go (below a e) b c = rw e tt
    go (beyond a e) (below b f) c = rw (e, f) tt
    go (beyond a e) (beyond b f) (beyond c g) = rw (e, f, g) tt
    go (beyond a e) (beyond b f) (below c g) = rw (e, f, g) record {
      record_low = h1;
      before_low = h2;
      after_low = h3;
      length_fits = a;
      total_fits = b;
      pile_room = c;
    }

pub back_guards : (w : Words) (span : Token) → BackGuards w span.number (plan_back w span)
unfolding plan_back plan_neighbours plan_sides
back_guards w span = go (is_live w.nodes w.count span.number) refl
  where
    r : ℕ
    r = span.number

    p : ℕ
    p = word w.nodes neighbor_prev r

    x : ℕ
    x = word w.nodes neighbor_next r

    there : Bool
    there = eqb (word w.nodes data_offset r) span.offset

    go : (t : Bool) → is_live w.nodes w.count r ≡ t
        → BackGuards w r (cond t (cond there (plan_neighbours w r p x) (BackPlan.stop 8)) (BackPlan.stop 5))
    go true e = either (BackGuards w r) there
        (merged_guards w r p x (is_free w.nodes w.count p) (is_free w.nodes w.count x)
        (merged_of w r p x (is_free w.nodes w.count p) (is_free w.nodes w.count x))
        (live_low w.nodes w.count r e)
        (free_low w.nodes w.count p)
        (free_low w.nodes w.count x))
        tt
    go false e = tt

pub guards_mean : GuardsMean
guards_mean = record {
  whole_sure = λ w s c r o e.
      let g : GrantGuards w s c r o = subst (λ (plan : TakePlan). TakeGuards w s plan) e (take_guards w s) in
      (g.class_low, g.record_low, g.inside, g.enough, g.spare);
  split_sure = λ w s c r o rest m e.
      let g : GrantGuards w s c r o × SplitGuards w m = subst (λ (plan : TakePlan). TakeGuards w s plan) e (take_guards w s) in
      (g.0.class_low, g.0.record_low, g.0.inside, g.0.enough, g.0.spare, g.1.top_low, g.1.spare_low);
  merge_sure = λ w span p x p_free x_free m e.
      let g : MergeGuards w span.number p x p_free x_free m
      = subst (λ (plan : BackPlan). BackGuards w span.number plan) e (back_guards w span) in
      (g.record_low, g.before_low, g.after_low, g.length_fits, g.total_fits, g.pile_room);
}
