-- How full a store is, in document 02's words. Assumes nothing.
use Rattle.std.specs.Prelude.{cond, ℕ, ◌*◌, ◌/◌, eqb}
use Rattle.basics.specs.Sum.{tally}
use Rattle.ledger.specs.Ledger.{Region, live, free, Ledger}

abbrev pub live_len : Region → ℕ
live_len (live n r) = n
live_len (free n r) = 0

-- "live units": the lengths of the live regions, summed
abbrev pub live_units : {I : Type 0} → Ledger I → ℕ
live_units l = tally live_len l.line

-- "let fill be floor(256 * live units / size), or 0 for size 0"
unfoldable pub fill_of : (units size : ℕ) → ℕ
fill_of units size = cond (eqb size 0) 0 (256 * units / size)
