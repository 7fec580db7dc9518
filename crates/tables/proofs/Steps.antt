-- The lesser steps on the shelf: the top of a class becomes live, a free neighbour goes onto the pile, a spare leaves it; and what they leave
-- of the regions' words. Assumes nothing.
use mathlib.Core.Path.{◌≡◌, refl, ap, ◌∙◌}
use mathlib.Core.Logic.{◌≢◌}
use mathlib.Core.List.{List, [], ◌∷◌}
use Prim.Native.Nat.{ℕ, ◌≤◌, ◌<◌}
use native.Mathlib.Omega.{arith}
use lib.Dec.{ltb}
use lib.ListN.{length}
use Rattle.basics.specs.Sum.{is, tally}
use Rattle.basics.proofs.Sums.{one_most, held_first}
use Rattle.basics.proofs.Counts.{In, SplitAt, split_at, apart_by, one_below}
use Rattle.basics.proofs.Pigeons.{pigeons}
use Rattle.small_float.specs.Class.{down}
use Rattle.ledger.specs.Ledger.{without}
use Rattle.tables.specs.Layout.{data_size, bin_prev, bin_next, used, word, put}
use Rattle.tables.specs.Words.{Words, Bounds}
use Rattle.tables.specs.Steps.{unlink_at, unlink, push_pile, pop_pile}
use Rattle.tables.specs.Take.{granting}
use Rattle.tables.proofs.Fields.{fits_below, fields, length_put}
use Rattle.tables.proofs.Written.{Unlinked, unlinked, Livened, livened, unlinked_livened}
use Rattle.tables.proofs.Linked.{last, linked_split, linked_kept}
use Rattle.tables.proofs.Spares.{pushed, popped}
use Rattle.tables.proofs.Shelf.{Bin, Held, Shelf, in_below}
use Rattle.tables.proofs.Remove.{unlink_at_held, unlink_at_shelf}

-- ---- the pile
-- a record that stands nowhere goes onto it
push_shelf : (K : Bounds) (w : Words) (stacks : ℕ → List ℕ) (spare : List ℕ) (r : ℕ) → Held K.n stacks (r ∷ spare)
    → Shelf K w stacks spare → Shelf K (push_pile w r) stacks (r ∷ spare)
unfolding push_pile
push_shelf K w stacks spare r nowhere H = record {
  small = H.small;
  nodes_room = H.nodes_room;
  held = nowhere;
  in_lists = H.in_lists;
  on_pile = pushed K.n w.free_offset w.pile spare r room H.on_pile;
  in_bits = H.in_bits;
}
  where
    -- the spare records are distinct, so there is room for one more
    room : length spare < K.n
    room = pigeons K.n (r ∷ spare) (λ q m. one_below q K.n (omega (arith, nowhere 0 q)))
        (λ q. omega (arith, nowhere 0 q, one_most (ltb q K.n)))

pub pop_shelf : (K : Bounds) (w : Words) (stacks : ℕ → List ℕ) (m : ℕ) (spare : List ℕ) → 1 ≤ length spare
    → Shelf K w stacks (m ∷ spare) → Shelf K (pop_pile w) stacks spare
unfolding pop_pile
pop_shelf K w stacks m spare more H = record {
  small = H.small;
  nodes_room = H.nodes_room;
  held = λ c q. omega (arith, H.held c q);
  in_lists = H.in_lists;
  on_pile = popped K.n w.free_offset w.pile spare m more H.on_pile;
  in_bits = H.in_bits;
}

module _ (K : Bounds) (w : Words) (stacks : ℕ → List ℕ) (spare : List ℕ) (H : Shelf K w stacks spare) (c r : ℕ) where
  -- ---- the top of class c becomes live with length s
  module _ (s : ℕ) (under : List ℕ) (on_top_lem : stacks c ≡ r ∷ under) where
    listed : Bin w.nodes K.none (r ∷ under) K.none
    listed = rw on_top_lem at (H.in_lists.lists c)

    top_shelf : Shelf K (unlink_at K w c K.none (word w.nodes bin_next r)) (without c r stacks) spare
    top_shelf = unlink_at_shelf K w stacks spare H c r K.none (word w.nodes bin_next r) [] under on_top_lem refl listed.1

    granting_held : Held K.n (without c r stacks) (r ∷ spare)
    granting_held = unlink_at_held K w stacks spare H c r K.none (word w.nodes bin_next r) [] under on_top_lem refl listed.1

    abbrev left : List ℕ
    left = unfold unlink_at in (unlink_at K w c K.none (word w.nodes bin_next r)).nodes

    U : Unlinked K K.none (word w.nodes bin_next r) w.nodes left
    unfolding unlink_at
    U = unlinked K K.none (word w.nodes bin_next r) w.nodes H.nodes_room

    r_below : r < K.n
    r_below = in_below K w stacks spare H c r (rw on_top_lem (held_first r under))

    abbrev after : List ℕ
    after = put r used 1 (put r data_size s left)

    M : Livened r s left after
    M = livened r s left (fits_below left K.n r (unfold unlink_at in top_shelf.nodes_room) r_below)

    pub granting_shelf : Shelf K (granting K w s c r) (without c r stacks) spare
    unfolding granting unlink_at
    granting_shelf = record {
      small = H.small;
      nodes_room = simp length_put top_shelf.nodes_room;
      held = top_shelf.held;
      in_lists = record {
        heads_room = top_shelf.in_lists.heads_room;
        class_is = λ d q m. ap down (M.region_kept q (not_r d q m)).size_kept ∙ top_shelf.in_lists.class_is d q m;
        class_low = top_shelf.in_lists.class_low;
        lists = λ d. linked_kept (word left bin_next) (word left bin_prev) (word after bin_next) (word after bin_prev) K.none (without c r stacks d) K.none
            (λ q _. simp fields) (λ q _. simp fields) (top_shelf.in_lists.lists d);
        tops = top_shelf.in_lists.tops;
      };
      on_pile = top_shelf.on_pile;
      in_bits = top_shelf.in_bits;
    }
      where
        not_r : (d q : ℕ) → In q (without c r stacks d) → q ≢ r
        not_r d q m = apart_by q r (tally (is q) (without c r stacks d)) m (omega (arith, granting_held d q, one_most (ltb q K.n)))

    pub granted_words : Livened r s w.nodes (granting K w s c r).nodes
    unfolding granting unlink_at
    granted_words = unlinked_livened U M

  -- ---- a record anywhere in class c leaves it, and goes onto the pile
  module _ (there : In r (stacks c)) where
    at : SplitAt r (stacks c)
    at = split_at r (stacks c) there

    parts : Bin w.nodes K.none at.front r × Bin w.nodes (last K.none at.front) (r ∷ at.back) K.none
    parts = linked_split (word w.nodes bin_next) (word w.nodes bin_prev) K.none at.front (r ∷ at.back) K.none
        (rw at.split_is at (H.in_lists.lists c))

    pub unlink_held : Held K.n (without c r stacks) (r ∷ spare)
    unlink_held = unlink_at_held K w stacks spare H c r (word w.nodes bin_prev r) (word w.nodes bin_next r)
        at.front at.back at.split_is parts.1.0 parts.1.1

    unlink_shelf : Shelf K (unlink K w r) (without c r stacks) spare
    unfolding unlink
    unlink_shelf = rw (H.in_lists.class_is c r there)
        (unlink_at_shelf K w stacks spare H c r (word w.nodes bin_prev r) (word w.nodes bin_next r)
        at.front at.back at.split_is parts.1.0 parts.1.1)

    pub drop_shelf : Shelf K (push_pile (unlink K w r) r) (without c r stacks) (r ∷ spare)
    drop_shelf = push_shelf K (unlink K w r) (without c r stacks) spare r unlink_held unlink_shelf

    pub dropped : Unlinked K (word w.nodes bin_prev r) (word w.nodes bin_next r) w.nodes (push_pile (unlink K w r) r).nodes
    unfolding push_pile unlink unlink_at
    dropped = unlinked K (word w.nodes bin_prev r) (word w.nodes bin_next r) w.nodes H.nodes_room
