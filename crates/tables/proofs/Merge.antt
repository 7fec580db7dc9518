-- A free neighbour of a region that is handed back leaves its class for the pile, and the gap grows over it. Assumes nothing.
use mathlib.Core.Path.{◌≡◌, ◌∙◌, subst}
use mathlib.Core.List.{List, [], ◌∷◌, ◌++◌, reverse, reverse-cons}
use Prim.Native.Nat.{ℕ, ◌+◌, ◌≤◌}
use native.Mathlib.Omega.{arith}
use lib.Dec.{ltb}
use Rattle.basics.specs.Sum.{is, tally}
use Rattle.basics.proofs.Sums.{one_most, tally_append}
use Rattle.basics.proofs.Counts.{In, hit, miss, match?}
use Rattle.small_float.specs.Class.{down}
use Rattle.ledger.specs.Ledger.{Region, free, len, without}
use Rattle.ledger.specs.WellFormed.{has}
use Rattle.ledger.proofs.Stacks.{tally_without}
use Rattle.tables.specs.Layout.{neighbor_prev, neighbor_next, used, word}
use Rattle.tables.specs.Words.{Words, Bounds}
use Rattle.tables.specs.Steps.{unlink, push_pile}
use Rattle.tables.specs.Linked.{recs, Reads}
use Rattle.tables.proofs.Linked.{last, linked_split}
use Rattle.tables.proofs.Lines.{recs_append, Chain, chain_kept, reads_split, reads_kept}
use Rattle.tables.proofs.Steps.{unlink_held, drop_shelf, dropped}
use Rattle.tables.proofs.Place.{Gap}

-- the neighbour q, of length z; the region handed back has the record r, and the gap is s long so far
module _ (K : Bounds) (w : Words) (stacks : ℕ → List ℕ) (spare : List ℕ) (r s z q : ℕ) (there : In q (stacks (down z))) where
  abbrev v : Words
  v = push_pile (unlink K w q) q

  abbrev stacks' : ℕ → List ℕ
  stacks' = without (down z) q stacks

  module _ (xs ys : List Region) (G : Gap K w xs ys stacks spare r s) where
    reads' : (o : ℕ) (zs : List Region) → Reads w.nodes o zs → Reads v.nodes o zs
    reads' o zs = reads_kept w.nodes v.nodes o zs (λ i _. (dropped K w stacks spare G.shelf (down z) q there).region_kept i)

    chain' : (p : ℕ) (zs : List ℕ) (y : ℕ) → Chain w.nodes p zs y → Chain v.nodes p zs y
    chain' p zs y = chain_kept w.nodes v.nodes p zs y (λ i _. (dropped K w stacks spare G.shelf (down z) q there).join_kept i)

    dead' : word w.nodes used q ≡ 0 → (i : ℕ) → In i (q ∷ spare) → word v.nodes used i ≡ 0
    dead' d i h = ((dropped K w stacks spare G.shelf (down z) q there).region_kept i).used_kept ∙ (elim (match? i q) [
      | hit e o ↦ rw e d
      | miss e o ↦ G.dead i (omega arith)
    ])

    -- what is still in a stack is not q
    inside' : (d i a b : ℕ) → tally (has i) xs + tally (has i) ys ≤ a + is i q + b → tally (is i) (stacks' d) ≤ a + b
    inside' d i a b h = elim (match? i q) [
      | hit e o ↦ omega (arith, unlink_held K w stacks spare G.shelf (down z) q there d i, one_most (ltb i K.n))
      | miss e o ↦ omega (arith, tally_without (down z) q stacks d i there, G.inside d i)
    ]

  pub drop_before : (before after : List Region) → Gap K w (reverse (free z q ∷ before)) after stacks spare r s
      → Gap K v (reverse before) after stacks' (q ∷ spare) r (z + s)
  drop_before before after F = record {
    shelf = drop_shelf K w stacks spare G.shelf (down z) q there;
    reads_before = reads' xs after G 0 (reverse before) reads.0;
    reads_after = rw behind (reads' xs after G (tally len xs + s) after G.reads_after);
    a = q;
    b = G.b;
    chain_before = chain' xs after G K.none (recs (reverse before)) q chain.0;
    chain_after = chain' xs after G G.b (recs after) K.none G.chain_after;
    dead = dead' xs after G reads.1.2;
    once = λ i. omega (arith, G.once i, in_xs i);
    inside = λ d i. inside' xs after G d i (tally (has i) (reverse before)) (tally (has i) after) (omega (arith, in_xs i));
  }
    where
      xs : List Region
      xs = reverse before ++ free z q ∷ []

      G : Gap K w xs after stacks spare r s
      G = subst (λ (zs : List Region). Gap K w zs after stacks spare r s) (reverse-cons (free z q) before) F

      in_xs : (i : ℕ) → tally (has i) xs ≡ tally (has i) (reverse before) + (is i q + 0)
      in_xs i = tally_append (has i) (reverse before) (free z q ∷ [])

      reads : Reads w.nodes 0 (reverse before) × Reads w.nodes (0 + tally len (reverse before)) (free z q ∷ [])
      reads = reads_split w.nodes 0 (reverse before) (free z q ∷ []) G.reads_before

      chain : Chain w.nodes K.none (recs (reverse before)) q × Chain w.nodes (last K.none (recs (reverse before))) (q ∷ []) G.a
      chain = linked_split (word w.nodes neighbor_next) (word w.nodes neighbor_prev) K.none (recs (reverse before)) (q ∷ []) G.a
          (rw (recs_append (reverse before) (free z q ∷ [])) at G.chain_before)

      behind : tally len (reverse before) + (z + s) ≡ tally len xs + s
      behind = omega (arith, tally_append len (reverse before) (free z q ∷ []))

  pub drop_after : (xs after : List Region) → Gap K w xs (free z q ∷ after) stacks spare r s
      → Gap K v xs after stacks' (q ∷ spare) r (s + z)
  drop_after xs after G = record {
    shelf = drop_shelf K w stacks spare G.shelf (down z) q there;
    reads_before = reads' xs (free z q ∷ after) G 0 xs G.reads_before;
    reads_after = rw behind (reads' xs (free z q ∷ after) G (tally len xs + s + z) after G.reads_after.3);
    a = G.a;
    b = q;
    chain_before = chain' xs (free z q ∷ after) G K.none (recs xs) G.a G.chain_before;
    chain_after = chain' xs (free z q ∷ after) G q (recs after) K.none G.chain_after.2;
    dead = dead' xs (free z q ∷ after) G G.reads_after.2;
    once = λ i. omega (arith, G.once i);
    inside = λ d i. inside' xs (free z q ∷ after) G d i (tally (has i) xs) (tally (has i) after) (omega arith);
  }
    where
      behind : tally len xs + (s + z) ≡ tally len xs + s + z
      behind = omega arith
