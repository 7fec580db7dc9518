-- What the list of size classes gives: each row is judged as its last byte comes. Assumes nothing.
use Rattle.std.specs.Prelude.{ℕ, cond, List, [], ◌∷◌}
use Rattle.oracle_lists.specs.declared.rows.State.TheVariants.{Between}
use Rattle.oracle_lists.specs.declared.classes.Comparison.{Comparison}
use Rattle.oracle_lists.specs.Rows.{fresh, fed, is_whole}
use Rattle.oracle_lists.specs.Tally.{no_rows, counted}
use Rattle.oracle_lists.specs.Verdicts.{row_verdict}

abbrev pub no_bytes : Comparison
no_bytes = record { reader = fresh Between 0; tally = no_rows }

-- one byte more: if it ends a row, the row is judged
unfoldable pub after_byte : Comparison → ℕ → Comparison
after_byte p byte =
    let r = fed p.reader byte in
    record { reader = r; tally = cond (is_whole r.state) (counted p.tally (row_verdict r)) p.tally }

-- all of the bytes, in order
unfoldable pub after_bytes : Comparison → List ℕ → Comparison
after_bytes p [] = p
after_bytes p (byte ∷ bytes) = after_bytes (after_byte p byte) bytes
