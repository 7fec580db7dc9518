-- What each call comes to once its plan is known, and what a plan that goes on has made sure of. The calls in code are walked by these.
-- Assumes nothing.
use mathlib.Core.Path.{◌≡◌, sym, ap, subst, ◌∙◌}
use mathlib.Core.Bool.{Bool}
use mathlib.Core.List.{List, []}
use Prim.Native.Nat.{ℕ, ◌+◌, ◌-◌}
use Rattle.ledger.specs.Ledger.{Answer, done, granted, refused}
use Rattle.tables.specs.Layout.{data_size, bin_next, neighbor_next, used, word, put}
use Rattle.ledger.specs.Calls.{Token}
use Rattle.tables.specs.Words.{Words, Edition, Bounds, bounds, with_nodes, with_total, with_lists, with_pile}
use Rattle.tables.specs.Steps.{insert, unlink_at, pop_pile}
use Rattle.tables.specs.Setup.{blank, fresh}
use Rattle.tables.specs.Take.{TakePlan, whole, split, plan_take, granting, splitting, do_take}
use Rattle.tables.specs.HandBack.{BackPlan, merge, Merged, plan_back, merging, do_back}
use Rattle.tables.specs.Guards.{GrantGuards, SplitGuards, TakeGuards, MergeGuards, BackGuards}
use Rattle.tables.proofs.Guards.{take_guards, back_guards}

-- an answer, and what is left beside it, make an outcome
pub outcome_is : {Lent : Type 0} {a b : Answer} {u v : Lent} → a ≡ b → u ≡ v → ◌≡◌ {A = Answer × Lent} (a, u) (b, v)
outcome_is e f = λ i. (e i, f i)

-- ---- take: stopped by its plan, granted whole, granted in part
module _ (E : Edition) (w : Words) (s : ℕ) where
  pub take_stopped : {k : ℕ} → plan_take w s ≡ TakePlan.stop k → (refused k, w) ≡ do_take E w s (plan_take w s)
  unfolding do_take
  take_stopped e = ap (λ (p : TakePlan). do_take E w s p) (sym e)

  pub taken_whole : {v : Words} {c r o : ℕ} → plan_take w s ≡ whole c r o
      → v ≡ with_total (granting (bounds E w) w s c r) (w.free_storage - s) → (granted o r, v) ≡ do_take E w s (plan_take w s)
  unfolding do_take
  taken_whole {r = r} {o = o} e f = ap (λ (u : Words). (granted o r, u)) f ∙ ap (λ (p : TakePlan). do_take E w s p) (sym e)

  pub taken_part : {v : Words} {c r o rest m : ℕ} → plan_take w s ≡ split c r o rest m
      → v ≡ with_total (splitting (bounds E w) w s c r o rest m) (w.free_storage - s) → (granted o r, v) ≡ do_take E w s (plan_take w s)
  unfolding do_take
  taken_part {r = r} {o = o} e f = ap (λ (u : Words). (granted o r, u)) f ∙ ap (λ (p : TakePlan). do_take E w s p) (sym e)

-- what its commit is made of: a region taken off its list and marked live; then the remainder put in
pub made_live : (K : Bounds) (w v : Words) (s c r next : ℕ) → next ≡ word w.nodes bin_next r → v ≡ unlink_at K w c K.none next
    → with_nodes v (put r used 1 (put r data_size s v.nodes)) ≡ granting K w s c r
unfolding granting
made_live K w v s c r next e f = rw (f, e)

pub remainder_put : (E : Edition) (w u v : Words) (s c r o rest m next : ℕ) → u ≡ granting (bounds E w) w s c r → v ≡ pop_pile u
    → next ≡ word w.nodes neighbor_next r → insert (bounds E v) v rest (o + s) m r next ≡ splitting (bounds E w) w s c r o rest m
unfolding splitting granting pop_pile unlink_at
remainder_put E w u v s c r o rest m next eu ev en = rw (ev, eu, en)

-- its guards read the scalars alone
abbrev pub scalars_alone : Words → Words
scalars_alone w = with_pile (with_lists w w.used_bins_top [] [] []) w.free_offset []

module _ (w : Words) {s c r o : ℕ} where
  scalars_only : GrantGuards w s c r o → GrantGuards (scalars_alone w) s c r o
  scalars_only g = record {
    class_low = g.class_low;
    record_low = g.record_low;
    inside = g.inside;
    enough = g.enough;
    spare = g.spare;
  }

  pub whole_ready : plan_take w s ≡ whole c r o → GrantGuards (scalars_alone w) s c r o
  whole_ready e = scalars_only (subst (λ (p : TakePlan). TakeGuards w s p) e (take_guards w s))

  pub split_ready : {rest m : ℕ} → plan_take w s ≡ split c r o rest m → GrantGuards (scalars_alone w) s c r o × SplitGuards (scalars_alone w) m
  split_ready e =
      let g = subst (λ (p : TakePlan). TakeGuards w s p) e (take_guards w s) in
      (scalars_only g.0, record { top_low = g.1.top_low; spare_low = g.1.spare_low })

-- ---- hand back: stopped by its plan; or merged, under record q, which is the one handed back
module _ (E : Edition) (w : Words) (span : Token) where
  pub back_stopped : {k : ℕ} → plan_back w span ≡ BackPlan.stop k → (refused k, w) ≡ do_back E w span.number (plan_back w span)
  unfolding do_back
  back_stopped e = ap (λ (p : BackPlan). do_back E w span.number p) (sym e)

  pub merged_back : {v : Words} {q p x : ℕ} {p_free x_free : Bool} {m : Merged} → q ≡ span.number → plan_back w span ≡ merge p x p_free x_free m
      → v ≡ merging (bounds E w) w q p x p_free x_free m → (done, v) ≡ do_back E w span.number (plan_back w span)
  unfolding do_back
  merged_back {p = p} {x = x} {p_free = p_free} {x_free = x_free} {m = m} same e f =
      ap (λ (u : Words). (done, u)) (f ∙ ap (λ (n : ℕ). merging (bounds E w) w n p x p_free x_free m) same)
      ∙ ap (λ (h : BackPlan). do_back E w span.number h) (sym e)

pub merge_ready : (w : Words) (span : Token) {q p x : ℕ} {p_free x_free : Bool} {m : Merged} → q ≡ span.number
    → plan_back w span ≡ merge p x p_free x_free m
    → MergeGuards w q p x p_free x_free m
merge_ready w span {p = p} {x = x} {p_free = p_free} {x_free = x_free} {m = m} same e =
    subst (λ (n : ℕ). MergeGuards w n p x p_free x_free m) (sym same) (subst (λ (h : BackPlan). BackGuards w span.number h) e (back_guards w span))

-- ---- setup and reset: record 0 leaves the blank pile and goes into its class
pub afresh : (E : Edition) (size count : ℕ) (nodes pile : List ℕ) {w v u : Words} → w ≡ blank E size count nodes pile → v ≡ pop_pile w
    → u ≡ insert (bounds E v) v size 0 0 E.none E.none → u ≡ fresh E size count nodes pile
unfolding fresh blank pop_pile
afresh E size count nodes pile e f g = rw (g, f, e)
