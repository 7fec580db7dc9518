-- "spare record numbers are distinct, below the count, not marked live". Assumes nothing.
use Rattle.std.specs.Prelude.{Bool, true, false, ◌&&◌, cond, List, ℕ, zero, suc, ◌+◌, ltb, eqb, get_or, set}
use Rattle.tables.specs.Layout.{used, word}

-- one of them, those before it being marked
unfoldable pub good_spare : (nodes marks : List ℕ) → (count r : ℕ) → Bool
good_spare nodes marks count r =
    -- "below the count"
    ltb r count
    -- "distinct": not met before
    && eqb (get_or marks r 0) 0
    -- "not marked live"
    && eqb (word nodes used r) 0

-- whether all were good, and the marks of those that were
pub record Marked : Type 0 where
  pub fine : Bool
  pub marks : List ℕ

-- the k words of the pile from i on, each marked as it is met, as far as they are good
unfoldable pub mark_from : ℕ → (nodes pile : List ℕ) → (count i : ℕ) → (marks : List ℕ) → Marked
unfolding good_spare
mark_from zero nodes pile count i marks = record { fine = true; marks = marks }
mark_from (suc k) nodes pile count i marks =
    cond (good_spare nodes marks count (get_or pile i 0))
    (mark_from k nodes pile count (i + 1) (set marks (get_or pile i 0) 1))
    record { fine = false; marks = marks }
