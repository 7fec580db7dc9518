-- Which words KeptBeyond, Agree and LeftAlone cover, up to the last. Assumes nothing.
use mathlib.Core.Path.{◌≡◌, refl}
use mathlib.Core.Logic.{◌⊎◌, inl, inr}
use Prim.Native.Nat.{ℕ, ◌%◌, ◌≤◌}
use native.Mathlib.Omega.{arith}
use Rattle.basics.proofs.Decided.{Same, same, differ, same?, Below, below, beyond, below?}
use Rattle.basics.proofs.Lists.{same_beyond, read_alike}
use Rattle.tables.specs.Layout.{used, nodes_needed, pile_needed}
use Rattle.tables.specs.Words.{Words, with_tables}
use Rattle.tables.specs.Reach.{LeftAlone, Written, ReachMeans}
use Rattle.tables.proofs.Agreeing.{tables_agree, by_tables}

left_or_written : (n i : ℕ) → 1 ≤ n → LeftAlone n i ⊎ Written n i
left_or_written n i one = go (below? i (nodes_needed n)) (below? i 7) (same? i 7) (same? (i % 8) used)
  where
    go : Below i (nodes_needed n) → Below i 7 → Same i 7 → Same (i % 8) used → LeftAlone n i ⊎ Written n i
    go (beyond l e) b c d = inl (inl l)
    go (below l e) (below m f) c d = inr (inl m)
    go (below l e) (beyond m f) (same q g) d = inl (inr (inl q))
    go (below l e) (beyond m f) (differ q g) (same h j) = inr (inr (l, h))
    go (below l e) (beyond m f) (differ q g) (differ h j) = inl (inr (inr (omega (arith, q), h)))

not_both : (n i : ℕ) → 1 ≤ n → LeftAlone n i → Written n i → ⊥
not_both n i one (inl h) (inl l) = omega arith
not_both n i one (inl h) (inr l) = omega (arith, l.0)
not_both n i one (inr (inl h)) (inl l) = omega arith
not_both n i one (inr (inl h)) (inr l) = omega (arith, l.1)
not_both n i one (inr (inr h)) (inl l) = omega (arith, h.0)
not_both n i one (inr (inr h)) (inr l) = h.1 l.1

pub reach_means : ReachMeans
reach_means = record {
  kept_head = λ k. (k.size_is, k.count_is);
  kept_arrays = λ k. (k.heads_length, k.leaves_length);
  kept_lengths = λ k. (k.nodes_length, k.pile_length);
  kept_nodes = λ {n} {w} {v} k. same_beyond (nodes_needed n) v.nodes w.nodes k.nodes_length k.nodes_beyond;
  kept_pile = λ {n} {w} {v} k. same_beyond (pile_needed n) v.pile w.pile k.pile_length k.pile_beyond;
  agree_on = λ k a b l m e. record { long = l; long_too = m; same = read_alike k a b e };
  agree = λ n w nodes pile N P. tables_agree n w N P;
  agree_head = λ {n} {w} {v} A. by_tables n A (λ (u : Words). with_tables w v.nodes v.pile ≡ u) refl;
  one_or_other = left_or_written;
  never_both = not_both;
}
