-- What a word of a record is after a write, of the same word or of another. Assumes nothing.
-- Side conditions that compute are stated as tests, so that `simp fields` closes them by itself.
use mathlib.Core.Path.{◌≡◌, refl}
use mathlib.Core.Logic.{◌≢◌}
use mathlib.Core.Bool.{Bool, true, false, cond}
use mathlib.Core.List.{List}
use Prim.Native.Nat.{ℕ, ◌+◌, ◌*◌, ◌≤◌, ◌<◌}
use native.Mathlib.Omega.{arith}
use lib.Dec.{ltb, leb, eqb}
use lib.ListN.{length, length-set}
use lib.Seq.{get_or-set_same, get_or-set_other}
use borrow.Author.Tests.{ltb-true, leb-true, le-leb, eqb-false}
use Rattle.tables.specs.Layout.{word, put, put_link, nodes_needed}

-- record r stands in the table, as a test
unfoldable pub fits : List ℕ → ℕ → Bool
fits nodes r = leb (8 * r + 8) (length nodes)

pub fits_below : (nodes : List ℕ) (n r : ℕ) → nodes_needed n ≤ length nodes → r < n → fits nodes r ≡ true
unfolding fits
fits_below nodes n r l h = le-leb (8 * r + 8) (length nodes) (omega arith)

-- ---- lengths
pub length_put : (r k v : ℕ) (nodes : List ℕ) → length (put r k v nodes) ≡ length nodes
unfolding put
length_put r k v nodes = simp length-set

pub length_put_link : (count r k v : ℕ) (nodes : List ℕ) → length (put_link count r k v nodes) ≡ length nodes
unfolding put_link
length_put_link count r k v nodes = go (ltb r count)
  where
    go : (b : Bool) → length (cond b (put r k v nodes) nodes) ≡ length nodes
    go true = length_put r k v nodes
    go false = refl

-- ---- after put: another word of a record, a word of another record, the word itself
pub word_put_field : (nodes : List ℕ) (r k v s j : ℕ) → ltb k 8 ≡ true → ltb j 8 ≡ true → eqb j k ≡ false
    → word (put r k v nodes) j s ≡ word nodes j s
unfolding word put
word_put_field nodes r k v s j a b c =
    get_or-set_other nodes (8 * r + k) (8 * s + j) v 0
    (omega (arith, ltb-true k 8 a, ltb-true j 8 b, eqb-false j k c))

pub word_put_rec : (nodes : List ℕ) (r k v s j : ℕ) → ltb k 8 ≡ true → ltb j 8 ≡ true → s ≢ r
    → word (put r k v nodes) j s ≡ word nodes j s
unfolding word put
word_put_rec nodes r k v s j a b h =
    get_or-set_other nodes (8 * r + k) (8 * s + j) v 0 (omega (arith, ltb-true k 8 a, ltb-true j 8 b))

pub word_put_same : (nodes : List ℕ) (r k v : ℕ) → ltb k 8 ≡ true → fits nodes r ≡ true → word (put r k v nodes) k r ≡ v
unfolding word put fits
word_put_same nodes r k v a f =
    get_or-set_same nodes (8 * r + k) v 0 (omega (arith, ltb-true k 8 a, leb-true (8 * r + 8) (length nodes) f))

pub fits_put : (nodes : List ℕ) (r k v s : ℕ) → fits (put r k v nodes) s ≡ fits nodes s
unfolding fits
fits_put nodes r k v s = rw length_put

-- ---- after put_link
module _ (count : ℕ) where
  pub word_put_link_field : (nodes : List ℕ) (r k v s j : ℕ) → ltb k 8 ≡ true → ltb j 8 ≡ true → eqb j k ≡ false
      → word (put_link count r k v nodes) j s ≡ word nodes j s
  unfolding put_link
  word_put_link_field nodes r k v s j a b c = go (ltb r count)
    where
      go : (t : Bool) → word (cond t (put r k v nodes) nodes) j s ≡ word nodes j s
      go true = word_put_field nodes r k v s j a b c
      go false = refl

  pub word_put_link_rec : (nodes : List ℕ) (r k v s j : ℕ) → ltb k 8 ≡ true → ltb j 8 ≡ true → s ≢ r
      → word (put_link count r k v nodes) j s ≡ word nodes j s
  unfolding put_link
  word_put_link_rec nodes r k v s j a b c = go (ltb r count)
    where
      go : (t : Bool) → word (cond t (put r k v nodes) nodes) j s ≡ word nodes j s
      go true = word_put_rec nodes r k v s j a b c
      go false = refl

  pub word_put_link_same : (nodes : List ℕ) (r k v : ℕ) → ltb k 8 ≡ true → ltb r count ≡ true → fits nodes r ≡ true
      → word (put_link count r k v nodes) k r ≡ v
  unfolding put_link
  word_put_link_same nodes r k v a c f = rw c (word_put_same nodes r k v a f)

  pub fits_put_link : (nodes : List ℕ) (r k v s : ℕ) → fits (put_link count r k v nodes) s ≡ fits nodes s
  unfolding fits
  fits_put_link nodes r k v s = rw length_put_link

pub ruleset fields = (
  word_put_field,
  word_put_rec,
  word_put_same,
  fits_put,
  word_put_link_field,
  word_put_link_rec,
  word_put_link_same,
  fits_put_link,
)
