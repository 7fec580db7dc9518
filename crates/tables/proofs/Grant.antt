-- The commit of a take, at a free region that is on top of its class: the whole of it becomes live, or a part of it, and the rest a free
-- region behind it. Assumes nothing.
use mathlib.Core.Path.{◌≡◌, ap, sym, ◌∙◌, subst}
use mathlib.Core.Logic.{◌≢◌}
use mathlib.Core.List.{List, [], ◌∷◌, ◌++◌}
use Prim.Native.Nat.{ℕ, ◌+◌, ◌-◌, ◌≤◌, ◌<◌}
use native.Mathlib.Omega.{arith}
use lib.Dec.{ltb}
use lib.ListN.{length}
use Rattle.basics.specs.Sum.{one, is, tally}
use Rattle.basics.proofs.Sums.{one_most, tally_append, held_first}
use Rattle.basics.proofs.Counts.{In, apart_by}
use Rattle.small_float.specs.Class.{down}
use Rattle.ledger.specs.Ledger.{Region, live, free, len, on_top, without}
use Rattle.ledger.specs.WellFormed.{has}
use Rattle.ledger.proofs.Stacks.{tally_without}
use Rattle.tables.specs.Layout.{neighbor_prev, neighbor_next, used, word}
use Rattle.tables.specs.Words.{Words, Bounds}
use Rattle.tables.specs.Steps.{pop_pile}
use Rattle.tables.specs.Take.{granting, splitting}
use Rattle.tables.specs.Linked.{first, recs, Reads}
use Rattle.tables.proofs.Written.{Livened}
use Rattle.tables.proofs.Linked.{last, last_append, linked_split, linked_join}
use Rattle.tables.proofs.Lines.{recs_append, recs_count, Chain, chain_kept, reads_split, reads_join, reads_kept}
use Rattle.tables.proofs.Shelf.{Shelf}
use Rattle.tables.proofs.Steps.{pop_shelf, granting_shelf, granted_words}
use Rattle.tables.proofs.Place.{Standing, Gap, placed}

module _ (K : Bounds) (w : Words) (xs ys : List Region) (n r s : ℕ) (stacks : ℕ → List ℕ) (spare under : List ℕ)
    (S : Standing K w (xs ++ free n r ∷ ys) stacks spare) (on_top_lem : stacks (down n) ≡ r ∷ under)
    (inside : (d q : ℕ) → tally (is q) (stacks d) ≤ tally (has q) (xs ++ free n r ∷ ys)) where
  -- ---- who is where
  once : (q : ℕ) → tally (has q) xs + (is q r + tally (has q) ys) + tally (is q) spare ≡ one (ltb q K.n)
  once q = omega (arith, S.once q, tally_append (has q) xs (free n r ∷ ys))

  xs_not_r : (q : ℕ) → In q (recs xs) → q ≢ r
  xs_not_r q g = apart_by q r (tally (is q) (recs xs)) g (omega (arith, once q, recs_count q xs, one_most (ltb q K.n)))

  ys_not_r : (q : ℕ) → In q (recs ys) → q ≢ r
  ys_not_r q g = apart_by q r (tally (is q) (recs ys)) g (omega (arith, once q, recs_count q ys, one_most (ltb q K.n)))

  spare_not_r : (q : ℕ) → In q spare → q ≢ r
  spare_not_r q g = apart_by q r (tally (is q) spare) g (omega (arith, once q, one_most (ltb q K.n)))

  -- ---- what the words say of the region
  reads_parts : Reads w.nodes 0 xs × Reads w.nodes (0 + tally len xs) (free n r ∷ ys)
  reads_parts = reads_split w.nodes 0 xs (free n r ∷ ys) S.reads

  chain_parts : Chain w.nodes K.none (recs xs) r × Chain w.nodes (last K.none (recs xs)) (r ∷ recs ys) K.none
  chain_parts = linked_split (word w.nodes neighbor_next) (word w.nodes neighbor_prev) K.none (recs xs) (r ∷ recs ys) K.none
      (rw (recs_append xs (free n r ∷ ys)) at S.chain)

  next_is : word w.nodes neighbor_next r ≡ first (recs ys) K.none
  next_is = chain_parts.1.1

  -- ---- it becomes live
  abbrev v : Words
  v = granting K w s (down n) r

  abbrev stacks' : ℕ → List ℕ
  stacks' = without (down n) r stacks

  L : Livened r s w.nodes v.nodes
  L = granted_words K w stacks spare S.shelf (down n) r s under on_top_lem

  before' : Reads v.nodes 0 xs
  before' = reads_kept w.nodes v.nodes 0 xs
      (λ q g. L.region_kept q (xs_not_r q g)) reads_parts.0

  after' : Reads v.nodes (0 + tally len xs + n) ys
  after' = reads_kept w.nodes v.nodes (0 + tally len xs + n) ys
      (λ q g. L.region_kept q (ys_not_r q g)) reads_parts.1.3

  -- its own words, with what is read behind it
  own' : (zs : List Region) → Reads v.nodes (0 + tally len xs + s) zs → Reads v.nodes (0 + tally len xs) (live s r ∷ zs)
  own' zs k = (
    L.own_offset_kept ∙ reads_parts.1.0,
    L.own_size,
    L.own_used,
    k,
  )

  chain' : (p : ℕ) (zs : List ℕ) (y : ℕ) → Chain w.nodes p zs y → Chain v.nodes p zs y
  chain' p zs y = chain_kept w.nodes v.nodes p zs y (λ q _. L.join_kept q)

  dead' : (q : ℕ) → In q spare → word v.nodes used q ≡ 0
  dead' q g = (L.region_kept q (spare_not_r q g)).used_kept ∙ S.dead q g

  -- ---- the whole of it is granted
  pub whole_standing : s ≡ n → Standing K (granting K w s (down n) r) (xs ++ live s r ∷ ys) (without (down n) r stacks) spare
  whole_standing e = record {
    shelf = granting_shelf K w stacks spare S.shelf (down n) r s under on_top_lem;
    reads = reads_join v.nodes 0 xs (live s r ∷ ys) before'
        (own' ys (subst (λ (k : ℕ). Reads v.nodes (0 + tally len xs + k) ys) (sym e) after'));
    chain = chain' K.none (recs (xs ++ live s r ∷ ys)) K.none
        (rw (recs_append xs (live s r ∷ ys)) (rw (recs_append xs (free n r ∷ ys)) at S.chain));
    dead = dead';
    once = λ q. omega (arith, once q, tally_append (has q) xs (live s r ∷ ys));
  }

  -- ---- a part of it is granted, and the rest takes the record m off the pile
  module _ (m : ℕ) (rest : List ℕ) (spare_is : spare ≡ m ∷ rest) (more : 1 ≤ length rest) (enough : s ≤ n) where
    in_spare : (q : ℕ) → tally (is q) spare ≡ is q m + tally (is q) rest
    in_spare q = ap (tally (is q)) spare_is

    split_gap : Gap K (pop_pile v) (xs ++ live s r ∷ []) ys stacks' rest m (n - s)
    unfolding pop_pile
    split_gap = record {
      shelf = pop_shelf K v stacks' m rest more
          (subst (Shelf K v stacks') spare_is (granting_shelf K w stacks spare S.shelf (down n) r s under on_top_lem));
      reads_before = reads_join v.nodes 0 xs (live s r ∷ []) before' (own' [] tt);
      reads_after = rw behind after';
      a = first (recs ys) K.none;
      b = r;
      chain_before = rw (recs_append xs (live s r ∷ [])) (chain' K.none (recs xs ++ r ∷ []) (first (recs ys) K.none)
          (linked_join (word w.nodes neighbor_next) (word w.nodes neighbor_prev) K.none (recs xs) (r ∷ []) (first (recs ys) K.none)
          chain_parts.0 (chain_parts.1.0, chain_parts.1.1, tt)));
      chain_after = chain' r (recs ys) K.none chain_parts.1.2;
      dead = λ q g. dead' q (omega (arith, in_spare q));
      once = λ q. omega (arith, once q, in_spare q, tally_append (has q) xs (live s r ∷ []));
      inside = λ d q. omega (
        arith,
        tally_without (down n) r stacks d q (rw on_top_lem (held_first r under)),
        inside d q,
        tally_append (has q) xs (free n r ∷ ys),
        tally_append (has q) xs (live s r ∷ []),
      );
    }
      where
        behind : tally len (xs ++ live s r ∷ []) + (n - s) ≡ 0 + tally len xs + n
        behind = omega (arith, tally_append len xs (live s r ∷ []))

    pub split_standing : (o : ℕ) → o ≡ tally len xs → down (n - s) < 256
        → Standing K (splitting K w s (down n) r o (n - s) m) ((xs ++ live s r ∷ []) ++ free (n - s) m ∷ ys) (on_top (down (n - s)) m stacks') rest
    unfolding splitting
    split_standing o o_is low = placed K (pop_pile v) (xs ++ live s r ∷ []) ys stacks' rest m (n - s) (o + s) r (word w.nodes neighbor_next r)
        split_gap low (omega (arith, tally_append len xs (live s r ∷ [])))
        (sym (ap (last K.none) (recs_append xs (live s r ∷ [])) ∙ last_append K.none (recs xs) (r ∷ []))) next_is
