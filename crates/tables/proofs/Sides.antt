-- The two sides of a region that is handed back: what the plan reads of the neighbour there is what the ledger says of that side, and where it
-- is free the gap grows over it. Assumes nothing.
use mathlib.Core.Path.{◌≡◌, refl, ap, sym, ◌∙◌, subst}
use mathlib.Core.Bool.{Bool, true, false, cond}
use mathlib.Core.List.{List, [], ◌∷◌, ◌++◌, reverse, reverse-cons}
use Prim.Native.Nat.{ℕ, ◌+◌, ◌≤◌, ◌<◌}
use native.Mathlib.Nat.{zero-add, add-zero}
use native.Mathlib.Omega.{arith}
use lib.ListN.{length}
use borrow.Author.Tests.{lt-ltb, le-ltb}
use Rattle.basics.specs.Sum.{one, is, tally}
use Rattle.basics.proofs.Sums.{tally_append}
use Rattle.basics.proofs.Counts.{In, is_own, one_below}
use Rattle.small_float.specs.Class.{down}
use Rattle.ledger.specs.Ledger.{Region, live, free, len, rec, without, Side, beside, stands, by_class, Stacks}
use Rattle.ledger.specs.WellFormed.{has}
use Rattle.ledger.proofs.KeptStacks.{stands_own}
use Rattle.tables.specs.Layout.{data_offset, data_size, neighbor_prev, neighbor_next, used, word}
use Rattle.tables.specs.Words.{Words, Edition, bounds}
use Rattle.tables.specs.Steps.{unlink, push_pile}
use Rattle.tables.specs.HandBack.{is_free, drop_if}
use Rattle.tables.specs.Linked.{first, recs, mark, Reads}
use Rattle.tables.proofs.Linked.{last, last_append, linked_split}
use Rattle.tables.proofs.Lines.{recs_append, Chain, reads_split}
use Rattle.tables.proofs.Place.{Gap}
use Rattle.tables.proofs.Merge.{drop_before, drop_after}

-- the nearest region on a side is free
abbrev pub opens : List Region → Bool
opens [] = false
opens (live n r ∷ rest) = false
opens (free n r ∷ rest) = true

pub one_owed : (side : List Region) (stacks : ℕ → List ℕ) → length (beside by_class side stacks).owed ≡ one (opens side)
unfolding beside
one_owed [] stacks = refl
one_owed (live n r ∷ rest) stacks = refl
one_owed (free n r ∷ rest) stacks = refl

-- the records before a place end with the nearest
last_rec : (none : ℕ) (x : Region) (before : List Region) → last none (recs (reverse (x ∷ before))) ≡ rec x
last_rec none x before =
    ap (λ (line : List Region). last none (recs line)) (reverse-cons x before)
    ∙ ap (last none) (recs_append (reverse before) (x ∷ []))
    ∙ last_append none (recs (reverse before)) (rec x ∷ [])

-- the stack of a free region on a side holds it, where the stacks hold what stands on that side
nearest_in : (stacks : ℕ → List ℕ) (z q : ℕ) (rest : List Region)
    → ((d i : ℕ) → tally (stands d i) (free z q ∷ rest) ≤ tally (is i) (stacks d)) → In q (stacks (down z))
nearest_in stacks z q rest h = omega (arith, h (down z) q, stands_own z q)

module _ (E : Edition) (w : Words) (r n : ℕ) where
  -- ---- is the neighbour free?
  no_neighbour : w.count ≤ E.none → is_free w.nodes w.count E.none ≡ false
  unfolding is_free
  no_neighbour h = rw (le-ltb E.none w.count h)

  neighbour : (x : Region) (rest : List Region) → rec x < w.count → word w.nodes used (rec x) ≡ mark x
      → is_free w.nodes w.count (rec x) ≡ opens (x ∷ rest)
  unfolding is_free
  neighbour (live z q) rest h e = rw (lt-ltb q w.count h, e)
  neighbour (free z q) rest h e = rw (lt-ltb q w.count h, e)

  -- ---- the side before, as the ledger reads it
  pub record SideBefore (before after : List Region) (b : Side Stacks) (spare : List ℕ) (p : ℕ) : Type 0 where
    pub free_is : is_free w.nodes w.count p ≡ opens before
    pub length_is : cond (opens before) (word w.nodes data_size p) 0 ≡ b.added
    pub start_is : cond (opens before) (word w.nodes data_offset p) (word w.nodes data_offset r) ≡ tally len (reverse b.rest)
    pub link_is : cond (opens before) (word w.nodes neighbor_prev p) p ≡ last E.none (recs (reverse b.rest))
    pub gap_is : Gap (bounds E w) (drop_if (bounds E w) (opens before) p w) (reverse b.rest) after
        b.index (b.owed ++ spare) r (b.added + n)

  -- what the words say of the nearest region before
  module _ (x : Region) (before after : List Region) (stacks : ℕ → List ℕ) (spare : List ℕ)
      (F : Gap (bounds E w) w (reverse (x ∷ before)) after stacks spare r n) where
    G : Gap (bounds E w) w (reverse before ++ x ∷ []) after stacks spare r n
    G = subst (λ (zs : List Region). Gap (bounds E w) w zs after stacks spare r n) (reverse-cons x before) F

    reads_x : Reads w.nodes (0 + tally len (reverse before)) (x ∷ [])
    reads_x = (reads_split w.nodes 0 (reverse before) (x ∷ []) G.reads_before).1

    chain_x : Chain w.nodes (last E.none (recs (reverse before))) (rec x ∷ []) G.a
    chain_x = (linked_split (word w.nodes neighbor_next) (word w.nodes neighbor_prev) E.none (recs (reverse before)) (rec x ∷ []) G.a
        (rw (recs_append (reverse before) (x ∷ [])) at G.chain_before)).1

    x_below : rec x < w.count
    x_below = one_below (rec x) w.count
        (omega (arith, G.once (rec x), tally_append (has (rec x)) (reverse before) (x ∷ []), is_own (rec x)))

    free_x : is_free w.nodes w.count (last E.none (recs (reverse (x ∷ before)))) ≡ opens (x ∷ before)
    free_x = ap (is_free w.nodes w.count) (last_rec E.none x before) ∙ neighbour x before x_below reads_x.2

  pub side_before : (before after : List Region) (stacks : ℕ → List ℕ) (spare : List ℕ)
      → Gap (bounds E w) w (reverse before) after stacks spare r n
      → ((d q : ℕ) → tally (stands d q) before ≤ tally (is q) (stacks d))
      → word w.nodes data_offset r ≡ tally len (reverse before)
      → SideBefore before after (beside by_class before stacks) spare (last E.none (recs (reverse before)))
  unfolding beside
  side_before [] after stacks spare F h o_is = record {
    free_is = no_neighbour F.shelf.small;
    length_is = refl;
    start_is = o_is;
    link_is = refl;
    gap_is = subst (Gap (bounds E w) w [] after stacks spare r) (sym (zero-add n)) F;
  }
  side_before (live z q ∷ before) after stacks spare F h o_is = record {
    free_is = free_x (live z q) before after stacks spare F;
    length_is = refl;
    start_is = o_is;
    link_is = refl;
    gap_is = subst (Gap (bounds E w) w (reverse (live z q ∷ before)) after stacks spare r) (sym (zero-add n)) F;
  }
  side_before (free z q ∷ before) after stacks spare F h o_is = record {
    free_is = free_x (free z q) before after stacks spare F;
    length_is = ap (word w.nodes data_size) at_q ∙ reads.1;
    start_is = ap (word w.nodes data_offset) at_q ∙ reads.0 ∙ zero-add (tally len (reverse before));
    link_is = ap (word w.nodes neighbor_prev) at_q ∙ (chain_x (free z q) before after stacks spare F).0;
    gap_is = subst
        (λ (i : ℕ). Gap (bounds E w) (push_pile (unlink (bounds E w) w i) i) (reverse before) after (without (down z) q stacks) (q ∷ spare) r (z + n))
        (sym at_q) (drop_before (bounds E w) w stacks spare r n z q (nearest_in stacks z q before h) before after F);
  }
    where
      at_q : last E.none (recs (reverse (free z q ∷ before))) ≡ q
      at_q = last_rec E.none (free z q) before

      reads : Reads w.nodes (0 + tally len (reverse before)) (free z q ∷ [])
      reads = reads_x (free z q) before after stacks spare F

  -- ---- the side after, where the words v are what the side before has left
  pub record SideAfter (v : Words) (xs after : List Region) (a : Side Stacks) (spare : List ℕ) (s x : ℕ) : Type 0 where
    pub free_is : is_free w.nodes w.count x ≡ opens after
    pub length_is : cond (opens after) (word w.nodes data_size x) 0 ≡ a.added
    pub link_is : cond (opens after) (word w.nodes neighbor_next x) x ≡ first (recs a.rest) E.none
    pub gap_is : Gap (bounds E w) (drop_if (bounds E w) (opens after) x v) xs a.rest
        a.index (a.owed ++ spare) r (s + a.added)

  pub side_after : (v : Words) (xs after : List Region) (o : ℕ) (stacks : ℕ → List ℕ) (spare : List ℕ) (s : ℕ)
      → Gap (bounds E w) v xs after stacks spare r s
      → ((d q : ℕ) → tally (stands d q) after ≤ tally (is q) (stacks d))
      → Reads w.nodes o after → Chain w.nodes r (recs after) E.none
      → SideAfter v xs after (beside by_class after stacks) spare s (first (recs after) E.none)
  unfolding beside
  side_after v xs [] o stacks spare s G h reads chain = record {
    free_is = no_neighbour G.shelf.small;
    length_is = refl;
    link_is = refl;
    gap_is = subst (Gap (bounds E w) v xs [] stacks spare r) (sym (add-zero s)) G;
  }
  side_after v xs (live z q ∷ after) o stacks spare s G h reads chain = record {
    free_is = neighbour (live z q) after (one_below q w.count (omega (arith, G.once q, is_own q))) reads.2;
    length_is = refl;
    link_is = refl;
    gap_is = subst (Gap (bounds E w) v xs (live z q ∷ after) stacks spare r) (sym (add-zero s)) G;
  }
  side_after v xs (free z q ∷ after) o stacks spare s G h reads chain = record {
    free_is = neighbour (free z q) after (one_below q w.count (omega (arith, G.once q, is_own q))) reads.2;
    length_is = reads.1;
    link_is = chain.1;
    gap_is = drop_after (bounds E w) v stacks spare r s z q (nearest_in stacks z q after h) xs after G;
  }
