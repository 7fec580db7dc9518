-- "a bit is set exactly where a list, or a leaf byte, is non-empty". Assumes nothing.
use Rattle.std.specs.Prelude.{Bool, true, ◌&&◌, cond, List, ℕ, zero, suc, ◌+◌, ◌*◌, eqb, get_or}
use Rattle.tables.specs.Words.{Edition}
use Rattle.tables.specs.Linked.{mask, non_zero}

-- 1 where the head of a list is no absent link
unfoldable pub head_bit : Edition → ℕ → ℕ
head_bit E head = cond (eqb head E.none) 0 1

-- the leaf byte and the top word that there should be
unfoldable pub leaf_of : Edition → (heads : List ℕ) → ℕ → ℕ
unfolding head_bit mask
leaf_of E heads t = mask 8 (λ i. head_bit E (get_or heads (8 * t + i) 0))

unfoldable pub top_of : (leaves : List ℕ) → ℕ
unfolding mask non_zero
top_of leaves = mask 32 (λ t. non_zero (get_or leaves t 0))

-- the k leaf bytes from t on are what they should be
unfoldable pub leaves_from : Edition → ℕ → (heads leaves : List ℕ) → ℕ → Bool
unfolding leaf_of
leaves_from E zero heads leaves t = true
leaves_from E (suc k) heads leaves t =
    eqb (get_or leaves t 0) (leaf_of E heads t)
    && leaves_from E k heads leaves (t + 1)

unfoldable pub bits_agree : Edition → (heads leaves : List ℕ) → (top : ℕ) → Bool
unfolding leaves_from top_of
bits_agree E heads leaves top =
    -- "exactly where a list .. is non-empty"
    leaves_from E 32 heads leaves 0
    -- "or a leaf byte"
    && eqb top (top_of leaves)
