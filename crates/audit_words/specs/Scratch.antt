-- The scratch table: a word to a record, 1 where the record was met in the pile. Assumes nothing.
use Rattle.std.specs.Prelude.{List, ℕ, zero, suc, set}

-- the first k words cleared
unfoldable pub cleared : ℕ → List ℕ → List ℕ
cleared zero scratch = scratch
cleared (suc k) scratch = set (cleared k scratch) k 0
