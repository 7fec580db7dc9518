-- A record that stands in no list and not on the pile goes on top of its class: the shelf holds it. Assumes nothing.
use mathlib.Core.Bool.{cond}
use mathlib.Core.Path.{◌≡◌, refl, ap, sym, ◌∙◌}
use mathlib.Core.Logic.{◌≢◌}
use mathlib.Core.List.{List, ◌∷◌}
use Prim.Native.Nat.{ℕ, ◌/◌, ◌%◌, ◌≤◌, ◌<◌}
use native.Mathlib.Omega.{arith}
use lib.Dec.{ltb}
use lib.ListN.{length, get_or, set, length-set}
use lib.Seq.{get_or-set_same, get_or-set_other}
use borrow.Author.Tests.{lt-ltb, le-ltb, eq-eqb, ne_eqb}
use Rattle.basics.specs.Sum.{is, tally}
use Rattle.basics.proofs.Decided.{Same, same, differ, same?}
use Rattle.basics.proofs.Sums.{one_most}
use Rattle.basics.proofs.Counts.{In, Match, hit, miss, match?, is_own, apart_by, one_below}
use Rattle.small_float.specs.Class.{down}
use Rattle.ledger.specs.Ledger.{on_top}
use Rattle.tables.specs.Layout.{data_size, bin_prev, bin_next, word}
use Rattle.tables.specs.Words.{Words, Bounds}
use Rattle.tables.specs.Steps.{insert_nodes, join_nodes, insert_at, insert, set_bit}
use Rattle.tables.specs.Linked.{first, full}
use Rattle.tables.proofs.Written.{Inserted, inserted}
use Rattle.tables.proofs.Linked.{Keeps, FirstOf, no_first, has_first, first?, linked_kept, linked_start}
use Rattle.tables.proofs.Masks.{full_some}
use Rattle.tables.proofs.Bits.{Bits, bits_kept, bits_filled}
use Rattle.tables.proofs.Shelf.{Bin, Held, Shelf, in_below, in_some, in_distinct, in_one_class}

-- ---- the stacks
module _ (c m : ℕ) (stacks : ℕ → List ℕ) where
  on_top_same : (d : ℕ) → d ≡ c → on_top c m stacks d ≡ m ∷ stacks c
  unfolding on_top
  on_top_same d e = rw (eq-eqb d c e, e)

  on_top_other : (d : ℕ) → d ≢ c → on_top c m stacks d ≡ stacks d
  unfolding on_top
  on_top_other d h = rw (ne_eqb d c h)

  -- what is in a stack then is m, in class c, or was in it before
  data InNew (d q : ℕ) : Type 0 where
    new_one : d ≡ c → q ≡ m → InNew d q
    old_one : In q (stacks d) → InNew d q

  in_new : (d q : ℕ) → In q (on_top c m stacks d) → InNew d q
  in_new d q g = go (same? d c) (match? q m)
    where
      go : Same d c → Match q m → InNew d q
      go (same e _) (hit f _) = new_one e f
      go (same e _) (miss f z) =
          let there : In q (m ∷ stacks c) = rw (on_top_same d e) at g in
          old_one (rw e (omega arith))
      go (differ e _) k = old_one (rw (on_top_other d e) at g)

module _ (K : Bounds) (w : Words) (stacks : ℕ → List ℕ) (spare : List ℕ) (H : Shelf K w stacks spare) (s o m p x : ℕ)
    (low : down s < 256) (nowhere : Held K.n stacks (m ∷ spare)) where
  abbrev c : ℕ
  c = down s

  -- the old top
  abbrev h : ℕ
  h = get_or w.bin_indices c 0

  abbrev after : List ℕ
  after = join_nodes K m p x (insert_nodes K m s o h p x w.nodes)

  abbrev stacks' : ℕ → List ℕ
  stacks' = on_top c m stacks

  h_is : h ≡ first (stacks c) K.none
  h_is = H.in_lists.tops c low

  m_below : m < K.n
  m_below = one_below m K.n (omega (arith, nowhere 0 m, is_own m))

  not_m : (d q : ℕ) → In q (stacks d) → q ≢ m
  not_m d q g = apart_by q m (tally (is q) (stacks d)) g (omega (arith, nowhere d q, one_most (ltb q K.n)))

  top_of : FirstOf (stacks c) K.none h
  top_of = rw h_is (first? (stacks c) K.none)

  m_not_h : m ≢ h
  m_not_h e = elim top_of [ no_first n f ↦ omega (arith, m_below, H.small) | has_first n g ↦ not_m c h g (sym e) ]

  I : Inserted K m s o h p x w.nodes after
  I = inserted K m s o h p x w.nodes H.nodes_room m_below

  -- ---- the lists
  class_is' : (d q : ℕ) → In q (stacks' d) → down (word after data_size q) ≡ d
  class_is' d q g = elim (in_new c m stacks d q g) [
    | new_one e f ↦ rw (f, I.own_size) (sym e)
    | old_one k ↦ ap down (I.region_kept q (not_m d q k)).size_kept ∙ H.in_lists.class_is d q k
  ]

  class_low' : (d q : ℕ) → In q (stacks' d) → d < 256
  class_low' d q g = elim (in_new c m stacks d q g) [ new_one e f ↦ omega (arith, low) | old_one k ↦ H.in_lists.class_low d q k ]

  next_kept : (d : ℕ) → Keeps (stacks d) (word w.nodes bin_next) (word after bin_next)
  next_kept d q g = I.bin_next_kept q (not_m d q g)

  -- the old top of class c is linked back to m
  top_joined : 1 ≤ length (stacks c) → word after bin_prev (first (stacks c) K.none) ≡ m
  top_joined l = elim (first? (stacks c) K.none) [
    | no_first n f ↦ absurd (omega (arith, ap (length {A = ℕ}) n))
    | has_first n g ↦ rw (← h_is) (I.h_prev (in_below K w stacks spare H c h (rw h_is g)))
  ]

  -- and no record of another class is the old top
  not_h : (d q : ℕ) → d ≢ c → In q (stacks d) → q ≢ h
  not_h d q ne g e = elim top_of [
    | no_first n f ↦ in_some K w stacks spare H d q g (e ∙ f)
    | has_first n k ↦ ne (in_one_class K w stacks spare H d c q g (rw e k))
  ]

  lists' : (d : ℕ) → Bin after K.none (stacks' d) K.none
  lists' d = elim (same? d c) [
    | same e _ ↦ rw (on_top_same c m stacks d e) (
      I.own_bin_prev m_not_h,
      I.own_bin_next ∙ h_is,
      linked_start (word w.nodes bin_next) (word w.nodes bin_prev) (word after bin_next) (word after bin_prev)
          K.none m (stacks c) K.none (in_distinct K w stacks spare H c) (next_kept c)
          (λ q g ne. I.bin_prev_kept q (not_m c q g) (λ z. ne (z ∙ h_is))) top_joined (H.in_lists.lists c),
    )
    | differ ne _ ↦ rw (on_top_other c m stacks d ne)
        (linked_kept (word w.nodes bin_next) (word w.nodes bin_prev) (word after bin_next) (word after bin_prev)
        K.none (stacks d) K.none (next_kept d) (λ q g. I.bin_prev_kept q (not_m d q g) (not_h d q ne g)) (H.in_lists.lists d))
  ]

  tops' : (d : ℕ) → d < 256 → get_or (set w.bin_indices c m) d 0 ≡ first (stacks' d) K.none
  tops' d l = elim (same? d c) [
    | same e _ ↦ rw (on_top_same c m stacks d e, e) (get_or-set_same w.bin_indices c m 0 (omega (arith, H.in_lists.heads_room, low)))
    | differ ne _ ↦ rw (on_top_other c m stacks d ne) (get_or-set_other w.bin_indices c d m 0 ne ∙ H.in_lists.tops d l)
  ]

  -- ---- the bits: they stay where the class held something, and are set where it did not
  full_c : full (stacks' c) ≡ 1
  full_c = rw (on_top_same c m stacks c refl)

  full_other : (d : ℕ) → d ≢ c → full (stacks' d) ≡ full (stacks d)
  full_other d ne = rw (on_top_other c m stacks d ne)

  bits' : Bits (cond (ltb h K.n) w.used_bins (set w.used_bins (c / 8) (set_bit (get_or w.used_bins (c / 8) 0) (c % 8))))
      (cond (ltb h K.n) w.used_bins_top (set_bit w.used_bins_top (c / 8))) stacks'
  bits' = elim top_of [
    | no_first n f ↦ rw (le-ltb h K.n (omega (arith, H.small)))
        (bits_filled w.used_bins w.used_bins_top stacks H.in_bits stacks' c low full_other full_c)
    | has_first n g ↦ rw (lt-ltb h K.n (in_below K w stacks spare H c h g))
        (bits_kept w.used_bins w.used_bins_top stacks H.in_bits stacks' (λ d. elim (same? d c) [
          | same e _ ↦ rw e (full_c ∙ sym (full_some (stacks c) n))
          | differ ne _ ↦ full_other d ne
        ]))
  ]

  held' : Held K.n stacks' spare
  held' d q = elim (same? d c) [
    | same e _ ↦ rw (on_top_same c m stacks d e) (omega (arith, nowhere c q))
    | differ ne _ ↦ rw (on_top_other c m stacks d ne) (H.held d q)
  ]

  pub insert_shelf : Shelf K (insert K w s o m p x) (on_top (down s) m stacks) spare
  unfolding insert insert_at
  insert_shelf = record {
    small = H.small;
    nodes_room = rw I.same_length H.nodes_room;
    held = held';
    in_lists = record {
      heads_room = length-set w.bin_indices c m ∙ H.in_lists.heads_room;
      class_is = class_is';
      class_low = class_low';
      lists = lists';
      tops = tops';
    };
    on_pile = H.on_pile;
    in_bits = bits';
  }
