-- A record leaves its class list, wherever in it it stands: the shelf is without it, and the record is free to go elsewhere. Assumes nothing.
use mathlib.Core.Path.{◌≡◌, refl, ap, sym, ◌∙◌}
use mathlib.Core.Logic.{◌≢◌}
use mathlib.Core.Bool.{true, false, cond}
use mathlib.Core.List.{List, [], ◌∷◌, ◌++◌}
use Prim.Native.Nat.{ℕ, zero, suc, ◌+◌, ◌/◌, ◌%◌, ◌≤◌, ◌<◌}
use native.Mathlib.Omega.{arith}
use lib.Dec.{ltb, eqb}
use lib.ListN.{length, get_or, set, length-append, length-set}
use lib.Seq.{get_or-set_same, get_or-set_other}
use borrow.Author.Tests.{lt-ltb, le-ltb, eq-eqb, ne_eqb}
use Rattle.basics.specs.Sum.{one, is, tally}
use Rattle.basics.proofs.Decided.{Same, same, differ, same?, eqb_same}
use Rattle.basics.proofs.Sums.{one_most, tally_append}
use Rattle.basics.proofs.Counts.{In, Match, hit, miss, match?, is_own}
use Rattle.small_float.specs.Class.{down}
use Rattle.ledger.specs.Ledger.{remove, without}
use Rattle.ledger.proofs.Stacks.{tally_without}
use Rattle.tables.specs.Layout.{bin_prev, bin_next, word, put_link}
use Rattle.tables.specs.Words.{Words, Bounds}
use Rattle.tables.specs.Steps.{unlink_at, clear_bit}
use Rattle.tables.specs.Linked.{first, full}
use Rattle.tables.proofs.Written.{Unlinked, unlinked}
use Rattle.tables.proofs.Linked.{last, first_append, FirstOf, no_first, has_first, first?, LastOf, no_last, has_last, last?}
use Rattle.tables.proofs.Linked.{linked_split, linked_join, linked_kept, linked_start, linked_end}
use Rattle.tables.proofs.Masks.{full_some}
use Rattle.tables.proofs.Bits.{Bits, bits_kept, bits_emptied}
use Rattle.tables.proofs.Shelf.{Bin, Held, Shelf, in_below, in_some, in_distinct, in_one_class}

-- ---- lists
remove_at : (r : ℕ) (xs ys : List ℕ) → tally (is r) xs ≡ 0 → remove r (xs ++ r ∷ ys) ≡ xs ++ ys
unfolding remove
remove_at r [] ys h = rw (eqb_same r)
remove_at r (x ∷ xs) ys h = elim (match? r x) [
  | hit e o ↦ absurd (omega arith)
  | miss d o ↦ rw (ne_eqb x r (λ e. d (sym e))) (ap {B = List ℕ} (λ l. x ∷ l) (remove_at r xs ys (omega arith)))
]

first_any : (xs : List ℕ) (a b : ℕ) → 1 ≤ length xs → first xs a ≡ first xs b
first_any [] a b h = absurd (omega arith)
first_any (x ∷ xs) a b h = refl

module _ (K : Bounds) (w : Words) (stacks : ℕ → List ℕ) (spare : List ℕ) (H : Shelf K w stacks spare) (c r p x : ℕ) (xs ys : List ℕ)
    (split_is : stacks c ≡ xs ++ r ∷ ys) (p-is : p ≡ last K.none xs) (x-is : x ≡ first ys K.none) where
  abbrev after : List ℕ
  after = put_link K.n x bin_prev p (put_link K.n p bin_next x w.nodes)

  abbrev stacks' : ℕ → List ℕ
  stacks' = without c r stacks

  -- ---- who is where
  in_c : (q : ℕ) → tally (is q) (stacks c) ≡ tally (is q) xs + (is q r + tally (is q) ys)
  in_c q = ap (tally (is q)) split_is ∙ tally_append (is q) xs (r ∷ ys)

  once : (q : ℕ) → tally (is q) xs + (is q r + tally (is q) ys) ≤ 1
  once q = omega (arith, in_c q, in_distinct K w stacks spare H c q)

  r_in : In r (stacks c)
  r_in = omega (arith, in_c r, is_own r)

  xs_in : (q : ℕ) → In q xs → In q (stacks c)
  xs_in q g = omega (arith, in_c q)

  ys_in : (q : ℕ) → In q ys → In q (stacks c)
  ys_in q g = omega (arith, in_c q)

  low : c < 256
  low = H.in_lists.class_low c r r_in

  without_c : (d : ℕ) → d ≡ c → stacks' d ≡ xs ++ ys
  unfolding without
  without_c d e = rw (eq-eqb d c e, e, split_is) (remove_at r xs ys (omega (arith, once r, is_own r)))

  without_other : (d : ℕ) → d ≢ c → stacks' d ≡ stacks d
  unfolding without
  without_other d ne = rw (ne_eqb d c ne)

  was_in : (d q : ℕ) → In q (stacks' d) → In q (stacks d)
  was_in d q g = omega (arith, tally_without c r stacks d q r_in)

  p_of : LastOf K.none xs p
  p_of = rw p-is (last? K.none xs)

  x_of : FirstOf ys K.none x
  x_of = rw x-is (first? ys K.none)

  -- a record in a list is not p, nor x, unless it is the one that these name
  not_p : (d q : ℕ) → In q (stacks d) → (In p xs → q ≢ p) → q ≢ p
  not_p d q g f e = elim p_of [ no_last n z ↦ in_some K w stacks spare H d q g (e ∙ z) | has_last n k ↦ f k e ]

  not_x : (d q : ℕ) → In q (stacks d) → (In x ys → q ≢ x) → q ≢ x
  not_x d q g f e = elim x_of [ no_first n z ↦ in_some K w stacks spare H d q g (e ∙ z) | has_first n k ↦ f k e ]

  U : Unlinked K p x w.nodes after
  U = unlinked K p x w.nodes H.nodes_room

  -- ---- the list of class c, in two parts that are joined anew
  abbrev next : ℕ → ℕ
  next = word w.nodes bin_next

  abbrev prev : ℕ → ℕ
  prev = word w.nodes bin_prev

  parts : Bin w.nodes K.none xs r × Bin w.nodes (last K.none xs) (r ∷ ys) K.none
  parts = linked_split next prev K.none xs (r ∷ ys) K.none (rw split_is at (H.in_lists.lists c))

  xs_not_x : (q : ℕ) → In q xs → q ≢ x
  xs_not_x q g = not_x c q (xs_in q g) (λ k e. let k2 : In q ys = rw e k in omega (arith, once q))

  ys_not_p : (q : ℕ) → In q ys → q ≢ p
  ys_not_p q g = not_p c q (ys_in q g) (λ k e. let k2 : In q xs = rw e k in omega (arith, once q))

  front : Bin after K.none xs (first ys K.none)
  front = linked_end next prev (word after bin_next) (word after bin_prev) K.none xs r (first ys K.none) (λ q. omega (arith, once q))
      (λ q g ne. U.bin_next_kept q (λ z. ne (z ∙ p-is))) (λ q g. U.bin_prev_kept q (xs_not_x q g)) joined parts.0
    where
      joined : 1 ≤ length xs → word after bin_next (last K.none xs) ≡ first ys K.none
      joined l = elim p_of [
        | no_last n z ↦ absurd (omega (arith, ap (length {A = ℕ}) n))
        | has_last n g ↦ rw (← p-is) (U.p_next (in_below K w stacks spare H c p (xs_in p g)) ∙ x-is)
      ]

  back : Bin after (last K.none xs) ys K.none
  back = linked_start next prev (word after bin_next) (word after bin_prev) r (last K.none xs) ys K.none (λ q. omega (arith, once q))
      (λ q g. U.bin_next_kept q (ys_not_p q g)) (λ q g ne. U.bin_prev_kept q (λ z. ne (z ∙ x-is))) joined parts.1.2
    where
      joined : 1 ≤ length ys → word after bin_prev (first ys K.none) ≡ last K.none xs
      joined l = elim x_of [
        | no_first n z ↦ absurd (omega (arith, ap (length {A = ℕ}) n))
        | has_first n g ↦ rw (← x-is) (U.x_prev (in_below K w stacks spare H c x (ys_in x g)) ∙ p-is)
      ]

  lists' : (d : ℕ) → Bin after K.none (stacks' d) K.none
  lists' d = elim (same? d c) [
    | same e _ ↦ rw (without_c d e) (linked_join (word after bin_next) (word after bin_prev) K.none xs ys K.none front back)
    | differ ne _ ↦ rw (without_other d ne)
        (linked_kept next prev (word after bin_next) (word after bin_prev) K.none (stacks d) K.none
        (λ q g. U.bin_next_kept q (not_p d q g (λ k z. ne (in_one_class K w stacks spare H d c q g (xs_in q (rw z k))))))
        (λ q g. U.bin_prev_kept q (not_x d q g (λ k z. ne (in_one_class K w stacks spare H d c q g (ys_in q (rw z k))))))
        (H.in_lists.lists d))
  ]

  -- ---- the head of class c: another where the record was on top
  p_some : In p xs → ltb p K.n ≡ true
  p_some g = lt-ltb p K.n (in_below K w stacks spare H c p (xs_in p g))

  p_none : p ≡ K.none → ltb p K.n ≡ false
  p_none e = le-ltb p K.n (omega (arith, H.small))

  abbrev heads' : List ℕ
  heads' = cond (ltb p K.n) w.bin_indices (set w.bin_indices c x)

  heads_room' : length heads' ≡ 256
  heads_room' = elim p_of [
    | no_last n z ↦ rw (p_none z) (length-set w.bin_indices c x ∙ H.in_lists.heads_room)
    | has_last n g ↦ rw (p_some g) H.in_lists.heads_room
  ]

  tops' : (d : ℕ) → d < 256 → get_or heads' d 0 ≡ first (stacks' d) K.none
  tops' d l = go p_of (same? d c)
    where
      go : LastOf K.none xs p → Same d c → get_or heads' d 0 ≡ first (stacks' d) K.none
      go (no_last n z) (same e _) = rw (p_none z, without_c d e, e, n)
          (get_or-set_same w.bin_indices c x 0 (omega (arith, H.in_lists.heads_room, low)) ∙ x-is)
      go (no_last n z) (differ ne _) = rw (p_none z, without_other d ne) (get_or-set_other w.bin_indices c d x 0 ne ∙ H.in_lists.tops d l)
      go (has_last n g) (same e _) = rw (p_some g, without_c d e, e)
          (H.in_lists.tops c low
          ∙ ap (λ (l : List ℕ). first l K.none) split_is
          ∙ first_append xs (r ∷ ys) K.none
          ∙ first_any xs r (first ys K.none) n
          ∙ sym (first_append xs ys K.none))
      go (has_last n g) (differ ne _) = rw (p_some g, without_other d ne) (H.in_lists.tops d l)

  -- ---- the bits: they stay where the class keeps something, and are cleared where it does not
  full_c : full (stacks c) ≡ 1
  full_c = rw split_is (full_some (xs ++ r ∷ ys) (omega (arith, length-append xs (r ∷ ys))))

  full_other : (d : ℕ) → d ≢ c → full (stacks' d) ≡ full (stacks d)
  full_other d ne = rw (without_other d ne)

  kept : 1 ≤ length xs + length ys → Bits w.used_bins w.used_bins_top stacks'
  kept some = bits_kept w.used_bins w.used_bins_top stacks H.in_bits stacks' (λ d. elim (same? d c) [
    | same e _ ↦ rw (without_c d e, e) (full_some (xs ++ ys) (omega (arith, length-append xs ys)) ∙ sym full_c)
    | differ ne _ ↦ full_other d ne
  ])

  abbrev cleared : ℕ
  cleared = clear_bit 8 (get_or w.used_bins (c / 8) 0) (c % 8)

  -- as unlink_at leaves them
  abbrev BitsAfter : Type 0
  BitsAfter =
      Bits (cond (ltb p K.n) w.used_bins (cond (ltb x K.n) w.used_bins (set w.used_bins (c / 8) cleared)))
      (cond (ltb p K.n) w.used_bins_top
      (cond (ltb x K.n) w.used_bins_top (cond (eqb cleared 0) (clear_bit 32 w.used_bins_top (c / 8)) w.used_bins_top)))
      stacks'

  bits' : BitsAfter
  bits' = go p_of x_of
    where
      go : LastOf K.none xs p → FirstOf ys K.none x → BitsAfter
      go (has_last n g) k = rw (p_some g) (kept (omega arith))
      go (no_last n z) (has_first k g) = rw (p_none z, lt-ltb x K.n (in_below K w stacks spare H c x (ys_in x g))) (kept (omega arith))
      go (no_last n z) (no_first k y) = rw (p_none z, le-ltb x K.n (omega (arith, H.small)))
          (bits_emptied w.used_bins w.used_bins_top stacks H.in_bits stacks' c low full_other full_c (rw (without_c c refl, n, k)))

  -- ---- the record now stands in no list and not on the pile
  pub unlink_at_held : Held K.n (without c r stacks) (r ∷ spare)
  unlink_at_held d q = go (same? d c) (match? q r)
    where
      nowhere_else : d ≢ c → (k : ℕ) → tally (is r) (stacks d) ≡ k → tally (is r) (stacks d) ≡ 0
      nowhere_else ne zero e = e
      nowhere_else ne (suc k) e = absurd (ne (in_one_class K w stacks spare H d c r (omega arith) r_in))

      go : Same d c → Match q r → tally (is q) (stacks' d) + (is q r + tally (is q) spare) ≤ one (ltb q K.n)
      go (same e _) k = rw (without_c d e) (omega (arith, tally_append (is q) xs ys, in_c q, H.held c q))
      go (differ ne _) (hit e o) = rw (without_other d ne, e)
          (omega (arith, is_own r, r_in, H.held c r, one_most (ltb r K.n), nowhere_else ne (tally (is r) (stacks d)) refl))
      go (differ ne _) (miss e o) = rw (without_other d ne) (omega (arith, H.held d q))

  pub unlink_at_shelf : Shelf K (unlink_at K w c p x) (without c r stacks) spare
  unfolding unlink_at
  unlink_at_shelf = record {
    small = H.small;
    nodes_room = rw U.same_length H.nodes_room;
    held = λ d q. omega (arith, unlink_at_held d q);
    in_lists = record {
      heads_room = heads_room';
      class_is = λ d q g. ap down (U.region_kept q).size_kept ∙ H.in_lists.class_is d q (was_in d q g);
      class_low = λ d q g. H.in_lists.class_low d q (was_in d q g);
      lists = lists';
      tops = tops';
    };
    on_pile = H.on_pile;
    in_bits = bits';
  }
