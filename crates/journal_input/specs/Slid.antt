-- The bytes from one place to another, moved to the front; behind them stands what stood there. Assumes nothing.
use Rattle.std.specs.Prelude.{List, ◌++◌, ℕ, ◌-◌, take, drop}

unfoldable pub slid : (from to : ℕ) → List ℕ → List ℕ
slid from to bytes = take (to - from) (drop from bytes) ++ drop (to - from) bytes
