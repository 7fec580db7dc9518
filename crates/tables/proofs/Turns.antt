-- One turn of each loop of the code: for the full report the walk of one list, the count of all lists, and the values of the classes; what
-- setup's two loops write. Assumes nothing.
use mathlib.Core.Path.{◌≡◌, ◌∙◌}
use mathlib.Core.List.{List}
use Prim.Native.Nat.{ℕ, zero, suc, ◌+◌, ◌-◌, ◌≤◌, ◌<◌}
use native.Mathlib.Numerals.{add-one}
use native.Mathlib.Omega.{arith}
use lib.ListN.{length, get_or, set}
use lib.Seq.{get_or-set_same, get_or-set_other}
use borrow.Author.Tests.{lt-ltb, le-ltb}
use Rattle.basics.proofs.Decided.{Same, same, differ, same?}
use Rattle.small_float.specs.Class.{value}
use Rattle.tables.specs.Layout.{bin_next, used, word, put}
use Rattle.tables.specs.Words.{Words}
use Rattle.tables.specs.Setup.{wiped, piled}
use Rattle.tables.specs.Questions.{Walked, steps, lost, list_length, counts, circular, noted, count_from}

-- ---- one list: at link a after n steps
module _ (nodes : List ℕ) (count a n : ℕ) where
  pub list_ends : count ≤ a → (fuel : ℕ) → list_length fuel nodes count a n ≡ steps n
  unfolding list_length
  list_ends h zero = rw (le-ltb _ _ h)
  list_ends h (suc fuel) = rw (le-ltb _ _ h)

  pub list_lost : a < count → count ≤ n → list_length (count - n) nodes count a n ≡ lost
  unfolding list_length
  list_lost h spent =
      let z : count - n ≡ 0 = omega arith in
      rw (z, lt-ltb _ _ h)

  pub list_goes_on : a < count → n < count
      → list_length (count - n) nodes count a n ≡ list_length (count - (n + 1)) nodes count (word nodes bin_next a) (n + 1)
  unfolding list_length
  list_goes_on h more =
      let z : count - n ≡ suc (count - (n + 1)) = omega arith in
      rw (z, lt-ltb _ _ h)

-- ---- all lists: at class c
module _ (w : Words) (c : ℕ) (so_far : List ℕ) where
  abbrev this_list : Walked
  this_list = list_length w.count w.nodes w.count (get_or w.bin_indices c 0) 0

  pub count_goes_on : {n : ℕ} → c < 256 → this_list ≡ steps n
      → count_from (256 - c) w c so_far ≡ count_from (256 - (c + 1)) w (c + 1) (set so_far c n)
  unfolding count_from noted
  count_goes_on h e =
      let z : 256 - c ≡ suc (256 - (c + 1)) = omega arith in
      rw (z, e, add-one c)

  pub count_lost : c < 256 → this_list ≡ lost → count_from (256 - c) w c so_far ≡ circular
  unfolding count_from noted
  count_lost h e =
      let z : 256 - c ≡ suc (256 - (c + 1)) = omega arith in
      rw (z, e)

  pub count_ends : 256 ≤ c → count_from (256 - c) w c so_far ≡ counts so_far
  unfolding count_from
  count_ends h =
      let z : 256 - c ≡ 0 = omega arith in
      rw z

-- ---- the values of the classes: of one class more
pub value_more : (sizes : List ℕ) (c v : ℕ) → c < length sizes → v ≡ value c → ((k : ℕ) → k < c → get_or sizes k 0 ≡ value k)
    → (k : ℕ) → k < c + 1 → get_or (set sizes c v) k 0 ≡ value k
value_more sizes c v low e below k h = go (same? k c)
  where
    go : Same k c → get_or (set sizes c v) k 0 ≡ value k
    go (same p _) = rw p (get_or-set_same sizes c v 0 low ∙ e)
    go (differ p _) = get_or-set_other sizes c k v 0 p ∙ below k (omega arith)

-- ---- setup: one record more
pub wiped_more : (k : ℕ) (nodes : List ℕ) → wiped (k + 1) nodes ≡ put k used 0 (wiped k nodes)
unfolding wiped
wiped_more k nodes = rw add-one

pub piled_more : (k n : ℕ) (pile : List ℕ) → piled (k + 1) n pile ≡ set (piled k n pile) k (n - k - 1)
unfolding piled
piled_more k n pile = rw add-one
