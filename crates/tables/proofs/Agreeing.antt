-- A step takes words that agree, as far as n records need, to words that agree. Assumes nothing.
use mathlib.Core.Path.{◌≡◌, refl, sym, subst, ◌∙◌}
use mathlib.Core.Bool.{Bool, true, false, cond}
use mathlib.Core.List.{List}
use Prim.Native.Nat.{ℕ, zero, suc, ◌+◌, ◌*◌, ◌-◌, ◌≤◌, ◌<◌}
use native.Mathlib.Omega.{arith}
use lib.Dec.{ltb}
use lib.ListN.{get_or, set, length-set}
use lib.Seq.{get_or-set_same, get_or-set_other}
use Rattle.basics.specs.Sum.{one}
use Rattle.basics.proofs.Decided.{Same, same, differ, same?}
use Rattle.small_float.specs.Class.{down}
use Rattle.tables.specs.Layout.{data_size, bin_prev, bin_next, used, word, put, put_link, nodes_needed, pile_needed}
use Rattle.tables.specs.Words.{Words, Bounds, with_nodes, with_tables, with_total}
use Rattle.tables.specs.Steps.{insert_nodes, join_nodes, insert_at, insert, unlink_at, unlink, push_pile, pop_pile}
use Rattle.tables.specs.Setup.{wiped, piled}
use Rattle.tables.specs.HandBack.{drop_if}
use Rattle.tables.specs.Reach.{AgreeOn, Agree}

-- ---- tables: the same write to both
module _ (k : ℕ) where
  pub set_agree : (i v : ℕ) {a b : List ℕ} → AgreeOn k a b → AgreeOn k (set a i v) (set b i v)
  set_agree i v {a} {b} A = record {
    long = rw (length-set a i v) A.long;
    long_too = rw (length-set b i v) A.long_too;
    same = λ j l. at j l (same? j i);
  }
    where
      at : (j : ℕ) → j < k → Same j i → get_or (set a i v) j 0 ≡ get_or (set b i v) j 0
      at j l (same e t) =
          rw e (get_or-set_same a i v 0 (omega (arith, A.long)) ∙ sym (get_or-set_same b i v 0 (omega (arith, A.long_too))))
      at j l (differ e t) = get_or-set_other a i j v 0 e ∙ A.same j l ∙ sym (get_or-set_other b i j v 0 e)

  pub put_agree : (r f v : ℕ) {a b : List ℕ} → AgreeOn k a b → AgreeOn k (put r f v a) (put r f v b)
  unfolding put
  put_agree r f v A = set_agree (8 * r + f) v A

  pub put_link_agree : (n r f v : ℕ) {a b : List ℕ} → AgreeOn k a b → AgreeOn k (put_link n r f v a) (put_link n r f v b)
  unfolding put_link
  put_link_agree n r f v {a} {b} A = at (ltb r n)
    where
      at : (t : Bool) → AgreeOn k (cond t (put r f v a) a) (cond t (put r f v b) b)
      at true = put_agree r f v A
      at false = A

-- a word of a record below the count is read alike
pub word_agree : (n : ℕ) {a b : List ℕ} → AgreeOn (nodes_needed n) a b → (f r : ℕ) → f < 8 → r < n → word a f r ≡ word b f r
unfolding word
word_agree n A f r f8 l = A.same (8 * r + f) (omega arith)

-- ---- words: those that agree with w are w with other tables, so that all that is read of the head is the same by computation
pub tables_agree : (n : ℕ) (w : Words) {nodes pile : List ℕ} → AgreeOn (nodes_needed n) w.nodes nodes
    → AgreeOn (pile_needed n) w.pile pile → Agree n w (with_tables w nodes pile)
tables_agree n w N P = record { one_head = refl; nodes_is = N; pile_is = P }

pub by_tables : (n : ℕ) {w v : Words} → Agree n w v → (P : Words → Type 0) → P (with_tables w v.nodes v.pile) → P v
by_tables n A P p = subst P A.one_head p

-- ---- the steps
module _ (n : ℕ) {w v : Words} (A : Agree n w v) where
  pub insert_agree : (K : Bounds) (s o m p x : ℕ) → Agree n (insert K w s o m p x) (insert K v s o m p x)
  unfolding insert insert_at join_nodes insert_nodes
  insert_agree K s o m p x =
      by_tables n A (λ (u : Words). Agree n (insert K w s o m p x) (insert K u s o m p x))
      (tables_agree n (insert K w s o m p x) (search (put_agree, put_link_agree) depth 15) A.pile_is)

  pub unlink_at_agree : (K : Bounds) (c p x : ℕ) → Agree n (unlink_at K w c p x) (unlink_at K v c p x)
  unfolding unlink_at
  unlink_at_agree K c p x =
      by_tables n A (λ (u : Words). Agree n (unlink_at K w c p x) (unlink_at K u c p x))
      (tables_agree n (unlink_at K w c p x) (search put_link_agree) A.pile_is)

  pub unlink_agree : (K : Bounds) (q : ℕ) → q < n → Agree n (unlink K w q) (unlink K v q)
  unfolding unlink
  unlink_agree K q l =
      rw (reads data_size (omega arith), reads bin_prev (omega arith), reads bin_next (omega arith))
      (unlink_at_agree K (down (word v.nodes data_size q)) (word v.nodes bin_prev q) (word v.nodes bin_next q))
    where
      reads : (f : ℕ) → f < 8 → word w.nodes f q ≡ word v.nodes f q
      reads f f8 = word_agree n A.nodes_is f q f8 l

  pub push_pile_agree : (r : ℕ) → Agree n (push_pile w r) (push_pile v r)
  unfolding push_pile
  push_pile_agree r =
      by_tables n A (λ (u : Words). Agree n (push_pile w r) (push_pile u r))
      (tables_agree n (push_pile w r) A.nodes_is (set_agree (pile_needed n) (w.free_offset + 1) r A.pile_is))

  pub pop_pile_agree : Agree n (pop_pile w) (pop_pile v)
  unfolding pop_pile
  pop_pile_agree = by_tables n A (λ (u : Words). Agree n (pop_pile w) (pop_pile u)) (tables_agree n (pop_pile w) A.nodes_is A.pile_is)

  pub total_agree : (t : ℕ) → Agree n (with_total w t) (with_total v t)
  total_agree t =
      by_tables n A (λ (u : Words). Agree n (with_total w t) (with_total u t)) (tables_agree n (with_total w t) A.nodes_is A.pile_is)

  -- record r becomes live with length s
  pub live_agree : (r s : ℕ) → Agree n (with_nodes w (put r used 1 (put r data_size s w.nodes)))
      (with_nodes v (put r used 1 (put r data_size s v.nodes)))
  live_agree r s =
      by_tables n A
      (λ (u : Words). Agree n (with_nodes w (put r used 1 (put r data_size s w.nodes))) (with_nodes u (put r used 1 (put r data_size s u.nodes))))
      (tables_agree n (with_nodes w (put r used 1 (put r data_size s w.nodes))) (search put_agree) A.pile_is)

-- a free neighbour leaves its class, and its record goes onto the pile
pub drop_agree : (n : ℕ) (K : Bounds) (is_free : Bool) (q : ℕ) {w v : Words} → (1 ≤ one is_free → q < n) → Agree n w v
    → Agree n (drop_if K is_free q w) (drop_if K is_free q v)
drop_agree n K true q l A = push_pile_agree n (unlink_agree n A K q (l (omega arith))) q
drop_agree n K false q l A = A

-- ---- setup's two loops
pub wiped_agree : (n k : ℕ) {a b : List ℕ} → AgreeOn n a b → AgreeOn n (wiped k a) (wiped k b)
unfolding wiped
wiped_agree n zero A = A
wiped_agree n (suc k) A = put_agree n k used 0 (wiped_agree n k A)

pub piled_agree : (n k count : ℕ) {a b : List ℕ} → AgreeOn n a b → AgreeOn n (piled k count a) (piled k count b)
unfolding piled
piled_agree n zero count A = A
piled_agree n (suc k) count A = set_agree n k (count - k - 1) (piled_agree n k count A)
