-- Neighbours dropped one after the other, and the merged region put in: each step is the model's. Assumes nothing.
use mathlib.Core.Path.{◌≡◌, refl, ap, ◌∙◌}
use mathlib.Core.Bool.{Bool, true, false}
use Prim.Native.Nat.{ℕ, ◌+◌}
use native.Mathlib.Omega.{arith}
use Rattle.basics.specs.Sum.{one}
use Rattle.tables.specs.Words.{Words, Edition, Bounds, bounds, with_total}
use Rattle.tables.specs.Steps.{insert, unlink_at, unlink, push_pile}
use Rattle.tables.specs.HandBack.{Merged, drop_if, merging}

-- a record that leaves its class changes neither the count nor the pile
pub unlink_count : (K : Bounds) (w : Words) (q : ℕ) → (unlink K w q).count ≡ w.count
unfolding unlink unlink_at
unlink_count K w q = refl

pub unlink_off : (K : Bounds) (w : Words) (q : ℕ) → (unlink K w q).free_offset ≡ w.free_offset
unfolding unlink unlink_at
unlink_off K w q = refl

-- a free neighbour's record goes onto the pile
pub drop_count : (K : Bounds) (is_free : Bool) (q : ℕ) (w : Words) → (drop_if K is_free q w).count ≡ w.count
unfolding unlink unlink_at push_pile
drop_count K true q w = refl
drop_count K false q w = refl

pub drop_off : (K : Bounds) (is_free : Bool) (q : ℕ) (w : Words) → (drop_if K is_free q w).free_offset ≡ w.free_offset + one is_free
unfolding unlink unlink_at push_pile
drop_off K true q w = refl
drop_off K false q w = omega arith

-- u is w without its neighbour p, where p is free
module _ (E : Edition) (w : Words) {u : Words} (p : ℕ) (p_free : Bool) (first : u ≡ drop_if (bounds E w) p_free p w) where
  pub dropped_count : u.count ≡ w.count
  dropped_count = ap (λ (z : Words). z.count) first ∙ drop_count (bounds E w) p_free p w

  pub dropped_off : u.free_offset ≡ w.free_offset + one p_free
  dropped_off = ap (λ (z : Words). z.free_offset) first ∙ drop_off (bounds E w) p_free p w

  -- v is u without its neighbour x, where x is free
  pub both_dropped : {v : Words} (x : ℕ) (x_free : Bool) → v ≡ drop_if (bounds E u) x_free x u
      → v ≡ drop_if (bounds E w) x_free x (drop_if (bounds E w) p_free p w)
  both_dropped x x_free second =
      second
      ∙ ap (λ (n : ℕ). drop_if (record { n = n; none = E.none }) x_free x u) dropped_count
      ∙ ap (λ (z : Words). drop_if (bounds E w) x_free x z) first

-- u is w without either
module _ (E : Edition) (w : Words) {u : Words} (p x : ℕ) (p_free x_free : Bool)
    (dropped : u ≡ drop_if (bounds E w) x_free x (drop_if (bounds E w) p_free p w)) where
  pub both_count : u.count ≡ w.count
  both_count =
      ap (λ (z : Words). z.count) dropped
      ∙ drop_count (bounds E w) x_free x (drop_if (bounds E w) p_free p w)
      ∙ drop_count (bounds E w) p_free p w

  -- v is u with the merged region put in
  pub merged : {v : Words} (r : ℕ) (m : Merged) → v ≡ insert (bounds E u) u m.length m.start r m.before m.after
      → with_total v m.total ≡ merging (bounds E w) w r p x p_free x_free m
  unfolding merging
  merged r m put =
      ap (λ (z : Words). with_total z m.total)
      (put
      ∙ ap (λ (n : ℕ). insert (record { n = n; none = E.none }) u m.length m.start r m.before m.after) both_count
      ∙ ap (λ (z : Words). insert (bounds E w) z m.length m.start r m.before m.after) dropped)
