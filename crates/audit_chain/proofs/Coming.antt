-- How a walk comes further along the chain: past one region, and from run to run. Assumes nothing.
use mathlib.Core.Path.{◌≡◌, refl, sym, subst, ◌∙◌}
use mathlib.Core.Bool.{true}
use mathlib.Core.List.{List}
use Prim.Native.Nat.{ℕ, ◌<◌}
use native.Mathlib.Nat.{sub-zero}
use native.Mathlib.Omega.{arith}
use Rattle.tables.specs.Words.{Edition}
use Rattle.audit_words.specs.declared.Walk.{Walk}
use Rattle.audit_words.specs.Chain.{good_region, advanced, started, walk_from}
use Rattle.audit_words.specs.Bounded.{Bounded}
use Rattle.audit_words.proofs.Turns.{walk_turn, walk_bounded}
use Rattle.audit_chain.specs.Comes.{end_from, Comes}

module _ (nodes marks : List ℕ) (count size : ℕ) where
  -- before the first step
  pub comes_nowhere : (w : Walk) → Bounded count size w → Comes nodes marks count size w w
  comes_nowhere w h = record { same_end = refl; no_fewer = omega arith; bounded = h }

  -- past a good region
  past_it : (start w : Walk) → Comes nodes marks count size start w → w.records < count → good_region nodes marks count size w ≡ true
      → Comes nodes marks count size start (advanced nodes w)
  unfolding advanced
  past_it start w h turn good = record {
    same_end = h.same_end ∙ walk_turn nodes marks count size w turn good;
    no_fewer = omega (arith, h.no_fewer);
    bounded = walk_bounded nodes marks count size w turn good h.bounded;
  }

  -- to where the code says that it stands then
  pub comes_past : (start w v : Walk) → Comes nodes marks count size start w → w.records < count → good_region nodes marks count size w ≡ true
      → v ≡ advanced nodes w → Comes nodes marks count size start v
  comes_past start w v h turn good e = subst (λ (u : Walk). Comes nodes marks count size start u) (sym e) (past_it start w h turn good)

  -- one part of the walk after another
  pub comes_on : (start v w : Walk) → Comes nodes marks count size start v → Comes nodes marks count size v w
      → Comes nodes marks count size start w
  comes_on start v w h k = record {
    same_end = h.same_end ∙ k.same_end;
    no_fewer = omega (arith, h.no_fewer, k.no_fewer);
    bounded = k.bounded;
  }

  -- the walk that comes from the first record to where it ends is the whole walk
  pub comes_to_end : (E : Edition) (first : ℕ) (w : Walk) → Comes nodes marks count size (started E first) w
      → end_from nodes marks count size w ≡ w → w ≡ walk_from count nodes marks count size (started E first)
  comes_to_end E first w h e =
      let whole : end_from nodes marks count size (started E first) ≡ walk_from count nodes marks count size (started E first) = rw sub-zero in
      sym (sym whole ∙ h.same_end ∙ e)
