-- The pile and its marks: where every spare was good, the marks count the spares, and spares in order are all good. Assumes nothing.
use mathlib.Core.Path.{◌≡◌, refl, ap, sym, ◌∙◌}
use mathlib.Core.Bool.{Bool, true, false, cond}
use mathlib.Core.List.{List, []}
use Prim.Native.Nat.{ℕ, zero, suc, ◌+◌, ◌≤◌, ◌<◌}
use native.Mathlib.Omega.{arith}
use native.Mathlib.Numerals.{add-one}
use lib.Dec.{ltb, eqb}
use lib.ListN.{length, get_or, set, length-set}
use lib.Seq.{get_or-set_same, get_or-set_other}
use borrow.Author.Tests.{ltb-true, eqb-true, lt-ltb, eq-eqb}
use Rattle.basics.specs.Sum.{is, tally}
use Rattle.basics.proofs.Decided.{same, differ, same?}
use Rattle.basics.proofs.Counts.{In, Distinct, Match, hit, miss, match?}
use Rattle.basics.proofs.Clash.{clash}
use Rattle.basics.proofs.Sums.{held_first}
use Rattle.basics.proofs.Counts.{in_tail, distinct_tail}
use Rattle.tables.specs.Layout.{used, word}
use Rattle.tables.specs.Linked.{stack_of}
use Rattle.audit_words.specs.Spares.{good_spare, mark_from}
use Rattle.audit_words.proofs.Tests.{both}

pub length_stack_of : (pile : List ℕ) (k : ℕ) → length (stack_of pile k) ≡ k
length_stack_of pile zero = refl
length_stack_of pile (suc k) = ap suc (length_stack_of pile k)

module _ (nodes pile : List ℕ) (count : ℕ) where
  -- ---- one spare
  record Good (marks : List ℕ) (r : ℕ) : Type 0 where
    pub low : r < count
    pub unmarked : get_or marks r 0 ≡ 0
    pub dead : word nodes used r ≡ 0

  is_good : (marks : List ℕ) (r : ℕ) → good_spare nodes marks count r ≡ true → Good marks r
  unfolding good_spare
  is_good marks r e =
      let two = both _ (eqb (word nodes used r) 0) e in
      let one = both (ltb r count) (eqb (get_or marks r 0) 0) two.0 in
      record { low = ltb-true r count one.0; unmarked = eqb-true _ 0 one.1; dead = eqb-true _ 0 two.1 }

  pub good_low : (marks : List ℕ) (r : ℕ) → good_spare nodes marks count r ≡ true → r < count
  good_low marks r e = (is_good marks r e).low

  good_is : (marks : List ℕ) (r : ℕ) → Good marks r → good_spare nodes marks count r ≡ true
  unfolding good_spare
  good_is marks r g = rw (lt-ltb r count g.low, eq-eqb _ 0 g.unmarked, eq-eqb _ 0 g.dead)

  -- ---- the spares up to i, in order and marked
  pub record InOrder (spares : List ℕ) : Type 0 where
    pub low : (r : ℕ) → In r spares → r < count
    pub dead : (r : ℕ) → In r spares → word nodes used r ≡ 0
    pub distinct : Distinct spares

  pub record MarkedUpTo (i : ℕ) (marks : List ℕ) : Type 0 where
    pub long : count ≤ length marks
    pub counts : (r : ℕ) → r < count → get_or marks r 0 ≡ tally (is r) (stack_of pile i)
    pub in_order : InOrder (stack_of pile i)

  one_more : (i : ℕ) (marks : List ℕ) → Good marks (get_or pile i 0) → MarkedUpTo i marks → MarkedUpTo (i + 1) (set marks (get_or pile i 0) 1)
  one_more i marks g m = rw add-one record {
    long = rw length-set m.long;
    counts = λ r l. count_at r l (match? r q);
    in_order = record {
      low = λ r h. elim (match? r q) [ hit e o ↦ rw e g.low | miss d o ↦ m.in_order.low r (omega arith) ];
      dead = λ r h. elim (match? r q) [ hit e o ↦ rw e g.dead | miss d o ↦ m.in_order.dead r (omega arith) ];
      distinct = λ r. elim (match? r q) [
        | hit e o ↦ omega (arith, fresh, ap (λ (s : ℕ). tally (is s) (stack_of pile i)) e)
        | miss d o ↦ omega (arith, m.in_order.distinct r)
      ];
    };
  }
    where
      q : ℕ
      q = get_or pile i 0

      fresh : tally (is q) (stack_of pile i) ≡ 0
      fresh = sym (m.counts q g.low) ∙ g.unmarked

      count_at : (r : ℕ) → r < count → Match r q → get_or (set marks q 1) r 0 ≡ is r q + tally (is r) (stack_of pile i)
      count_at r l (hit e o) = rw e (get_or-set_same marks q 1 0 (omega (arith, m.long, g.low)) ∙ omega (arith, fresh, o, ap (λ (s : ℕ). is s q) e))
      count_at r l (miss d o) = get_or-set_other marks q r 1 0 d ∙ omega (arith, m.counts r l)

  -- ---- yes: all are in order, and marked
  pub marked_all : (k i : ℕ) (marks : List ℕ) → MarkedUpTo i marks → (mark_from k nodes pile count i marks).fine ≡ true
      → MarkedUpTo (i + k) (mark_from k nodes pile count i marks).marks
  unfolding mark_from
  marked_all zero i marks m e = let here : i + 0 ≡ i = omega arith in rw here m
  marked_all (suc k) i marks m e = go (good_spare nodes marks count (get_or pile i 0)) refl e (marked_all k (i + 1) (set marks (get_or pile i 0) 1))
    where
      go : (t : Bool) → good_spare nodes marks count (get_or pile i 0) ≡ t
          → (cond t (mark_from k nodes pile count (i + 1) (set marks (get_or pile i 0) 1)) record { fine = false; marks = marks }).fine ≡ true
          → (MarkedUpTo (i + 1) (set marks (get_or pile i 0) 1)
          → (mark_from k nodes pile count (i + 1) (set marks (get_or pile i 0) 1)).fine ≡ true
          → MarkedUpTo (i + 1 + k) (mark_from k nodes pile count (i + 1) (set marks (get_or pile i 0) 1)).marks)
          → MarkedUpTo (i + suc k) (cond t (mark_from k nodes pile count (i + 1) (set marks (get_or pile i 0) 1)) record { fine = false; marks = marks }).marks
      go true g f further =
          let there : i + suc k ≡ i + 1 + k = omega arith in
          rw there (further (one_more i marks (is_good marks (get_or pile i 0) g) m) f)
      go false g f further = clash (cc)

  -- ---- spares in order: yes
  -- the i-th is not among those before it
  record GoodAt (i : ℕ) : Type 0 where
    pub low : get_or pile i 0 < count
    pub dead : word nodes used (get_or pile i 0) ≡ 0
    pub fresh : tally (is (get_or pile i 0)) (stack_of pile i) ≡ 0

  each_good : (n : ℕ) → InOrder (stack_of pile n) → (i : ℕ) → i < n → GoodAt i
  each_good zero o i l = absurd (omega arith)
  each_good (suc n) o i l = elim (same? i n) [
    | same e t ↦ rw e record {
      low = o.low q (held_first q (stack_of pile n));
      dead = o.dead q (held_first q (stack_of pile n));
      fresh = omega (arith, o.distinct q, held_first q []);
    }
    | differ d t ↦ each_good n record {
      low = λ r h. o.low r (in_tail r q (stack_of pile n) h);
      dead = λ r h. o.dead r (in_tail r q (stack_of pile n) h);
      distinct = distinct_tail q (stack_of pile n) o.distinct;
    } i (omega arith)
  ]
    where
      q : ℕ
      q = get_or pile n 0

  pub all_marked : (k i : ℕ) (marks : List ℕ) → MarkedUpTo i marks → InOrder (stack_of pile (i + k))
      → (mark_from k nodes pile count i marks).fine ≡ true
  unfolding mark_from
  all_marked zero i marks m o = refl
  all_marked (suc k) i marks m o =
      let at = each_good (i + suc k) o i (omega arith) in
      let g : Good marks (get_or pile i 0) =
      record { low = at.low; unmarked = m.counts (get_or pile i 0) at.low ∙ at.fresh; dead = at.dead } in
      let there : i + suc k ≡ i + 1 + k = omega arith in
      rw (good_is marks (get_or pile i 0) g)
      (all_marked k (i + 1) (set marks (get_or pile i 0) 1) (one_more i marks g m) (rw there at o))
