-- How a free region comes to be: a record comes in between two parts of the line. Setup's region, the remainder of a take and the merged
-- region of a hand-back all come in so. Assumes nothing.
use mathlib.Core.Path.{◌≡◌, ap, sym, ◌∙◌}
use mathlib.Core.Logic.{◌≢◌}
use mathlib.Core.List.{List, ◌∷◌, ◌++◌}
use Prim.Native.Nat.{ℕ, ◌+◌, ◌≤◌, ◌<◌}
use native.Mathlib.Nat.{zero-add}
use native.Mathlib.Omega.{arith}
use lib.Dec.{ltb}
use lib.ListN.{length, get_or}
use Rattle.basics.specs.Sum.{one, is, tally}
use Rattle.basics.proofs.Sums.{one_most, tally_append}
use Rattle.basics.proofs.Counts.{In, is_own, apart_by, one_below}
use Rattle.small_float.specs.Class.{down}
use Rattle.ledger.specs.Ledger.{Region, free, len, on_top}
use Rattle.ledger.specs.WellFormed.{has}
use Rattle.tables.specs.Layout.{neighbor_prev, neighbor_next, used, word}
use Rattle.tables.specs.Words.{Words, Bounds}
use Rattle.tables.specs.Steps.{insert_nodes, join_nodes, insert_at, insert}
use Rattle.tables.specs.Linked.{first, recs, Reads}
use Rattle.tables.proofs.Written.{Inserted, inserted}
use Rattle.tables.proofs.Linked.{last, FirstOf, no_first, has_first, first?, LastOf, no_last, has_last, last?}
use Rattle.tables.proofs.Linked.{linked_join, linked_start, linked_end}
use Rattle.tables.proofs.Lines.{recs_append, recs_count, Chain, reads_join, reads_kept}
use Rattle.tables.proofs.Shelf.{Shelf}
use Rattle.tables.proofs.Insert.{insert_shelf}

-- a line, its stacks and its pile stand in the words; the kept total is not part of it
pub record Standing (K : Bounds) (w : Words) (line : List Region) (stacks : ℕ → List ℕ) (spare : List ℕ) : Type 0 where
  pub shelf : Shelf K w stacks spare
  pub reads : Reads w.nodes 0 line
  pub chain : Chain w.nodes K.none (recs line) K.none
  pub dead : (q : ℕ) → In q spare → word w.nodes used q ≡ 0
  pub once : (q : ℕ) → tally (has q) line + tally (is q) spare ≡ one (ltb q K.n)

-- the same of a line with a gap of length s between xs and ys, for the record m, which stands nowhere;
-- what the last of xs and the first of ys are linked to does not matter
pub record Gap (K : Bounds) (w : Words) (xs ys : List Region) (stacks : ℕ → List ℕ) (spare : List ℕ) (m s : ℕ) : Type 0 where
  pub shelf : Shelf K w stacks spare
  pub reads_before : Reads w.nodes 0 xs
  pub reads_after : Reads w.nodes (tally len xs + s) ys
  pub a : ℕ
  pub b : ℕ
  pub chain_before : Chain w.nodes K.none (recs xs) a
  pub chain_after : Chain w.nodes b (recs ys) K.none
  pub dead : (q : ℕ) → In q spare → word w.nodes used q ≡ 0
  pub once : (q : ℕ) → tally (has q) xs + (is q m + tally (has q) ys) + tally (is q) spare ≡ one (ltb q K.n)
  pub inside : (d q : ℕ) → tally (is q) (stacks d) ≤ tally (has q) xs + tally (has q) ys

module _ (K : Bounds) (w : Words) (xs ys : List Region) (stacks : ℕ → List ℕ) (spare : List ℕ) (m s o p x : ℕ)
    (G : Gap K w xs ys stacks spare m s) (low : down s < 256) (o_is : o ≡ tally len xs) (p-is : p ≡ last K.none (recs xs))
    (x-is : x ≡ first (recs ys) K.none) where
  -- ---- who is where
  once : (q : ℕ) → tally (is q) (recs xs) + is q m + tally (is q) (recs ys) + tally (is q) spare ≤ 1
  once q = omega (arith, G.once q, recs_count q xs, recs_count q ys, one_most (ltb q K.n))

  xs_below : (q : ℕ) → In q (recs xs) → q < K.n
  xs_below q g = one_below q K.n (omega (arith, G.once q, recs_count q xs))

  ys_below : (q : ℕ) → In q (recs ys) → q < K.n
  ys_below q g = one_below q K.n (omega (arith, G.once q, recs_count q ys))

  m_below : m < K.n
  m_below = one_below m K.n (omega (arith, G.once m, is_own m))

  xs_not_m : (q : ℕ) → In q (recs xs) → q ≢ m
  xs_not_m q g = apart_by q m (tally (is q) (recs xs)) g (omega (arith, once q))

  ys_not_m : (q : ℕ) → In q (recs ys) → q ≢ m
  ys_not_m q g = apart_by q m (tally (is q) (recs ys)) g (omega (arith, once q))

  spare_not_m : (q : ℕ) → In q spare → q ≢ m
  spare_not_m q g = apart_by q m (tally (is q) spare) g (omega (arith, once q))

  p_of : LastOf K.none (recs xs) p
  p_of = rw p-is (last? K.none (recs xs))

  x_of : FirstOf (recs ys) K.none x
  x_of = rw x-is (first? (recs ys) K.none)

  -- a record is not p, nor x, unless it is the one that these name
  not_p : (q : ℕ) → q < K.n → (In p (recs xs) → q ≢ p) → q ≢ p
  not_p q l f e = elim p_of [ no_last n z ↦ omega (arith, G.shelf.small) | has_last n g ↦ f g e ]

  not_x : (q : ℕ) → q < K.n → (In x (recs ys) → q ≢ x) → q ≢ x
  not_x q l f e = elim x_of [ no_first n z ↦ omega (arith, G.shelf.small) | has_first n g ↦ f g e ]

  -- ---- the words
  abbrev after : List ℕ
  after = join_nodes K m p x (insert_nodes K m s o (get_or w.bin_indices (down s) 0) p x w.nodes)

  I : Inserted K m s o (get_or w.bin_indices (down s) 0) p x w.nodes after
  I = inserted K m s o (get_or w.bin_indices (down s) 0) p x w.nodes G.shelf.nodes_room m_below

  -- ---- the chain, joined on both sides of m
  abbrev next : ℕ → ℕ
  next = word w.nodes neighbor_next

  abbrev prev : ℕ → ℕ
  prev = word w.nodes neighbor_prev

  before' : Chain after K.none (recs xs) m
  before' = linked_end next prev (word after neighbor_next) (word after neighbor_prev) K.none (recs xs) G.a m (λ q. omega (arith, once q))
      (λ q g ne. I.next_kept q (xs_not_m q g) (λ z. ne (z ∙ p-is)))
      (λ q g. I.prev_kept q (xs_not_m q g) (not_x q (xs_below q g) (λ k e. let k2 : In q (recs ys) = rw e k in omega (arith, once q))))
      joined G.chain_before
    where
      joined : 1 ≤ length (recs xs) → word after neighbor_next (last K.none (recs xs)) ≡ m
      joined l = elim p_of [
        | no_last n z ↦ absurd (omega (arith, ap (length {A = ℕ}) n))
        | has_last n g ↦ rw (← p-is) (I.p_next (xs_below p g))
      ]

  after' : Chain after m (recs ys) K.none
  after' = linked_start next prev (word after neighbor_next) (word after neighbor_prev) G.b m (recs ys) K.none (λ q. omega (arith, once q))
      (λ q g. I.next_kept q (ys_not_m q g) (not_p q (ys_below q g) (λ k e. let k2 : In q (recs xs) = rw e k in omega (arith, once q))))
      (λ q g ne. I.prev_kept q (ys_not_m q g) (λ z. ne (z ∙ x-is)))
      joined G.chain_after
    where
      joined : 1 ≤ length (recs ys) → word after neighbor_prev (first (recs ys) K.none) ≡ m
      joined l = elim x_of [
        | no_first n z ↦ absurd (omega (arith, ap (length {A = ℕ}) n))
        | has_first n g ↦ rw (← x-is) (I.x_prev (ys_below x g))
      ]

  chain' : Chain after K.none (recs xs ++ m ∷ recs ys) K.none
  chain' = linked_join (word after neighbor_next) (word after neighbor_prev) K.none (recs xs) (m ∷ recs ys) K.none before' (
    I.own_prev (not_x m m_below (λ g e. ys_not_m x g (sym e))) ∙ p-is,
    I.own_next (not_p m m_below (λ g e. xs_not_m p g (sym e))) ∙ x-is,
    after',
  )

  -- ---- the regions
  reads' : Reads after 0 (xs ++ free s m ∷ ys)
  reads' = reads_join after 0 xs (free s m ∷ ys) (reads_kept w.nodes after 0 xs (λ q g. I.region_kept q (xs_not_m q g)) G.reads_before) (
    I.own_offset ∙ o_is ∙ sym (zero-add (tally len xs)),
    I.own_size,
    I.own_used,
    rw (zero-add (tally len xs)) (reads_kept w.nodes after (tally len xs + s) ys (λ q g. I.region_kept q (ys_not_m q g)) G.reads_after),
  )

  pub placed : Standing K (insert K w s o m p x) (xs ++ free s m ∷ ys) (on_top (down s) m stacks) spare
  unfolding insert insert_at
  placed = record {
    shelf = insert_shelf K w stacks spare G.shelf s o m p x low (λ d q. omega (arith, G.once q, G.inside d q));
    reads = reads';
    chain = rw (recs_append xs (free s m ∷ ys)) chain';
    dead = λ q g. (I.region_kept q (spare_not_m q g)).used_kept ∙ G.dead q g;
    once = λ q. omega (arith, G.once q, tally_append (has q) xs (free s m ∷ ys));
  }
