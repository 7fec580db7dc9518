-- The rows of a full report: g CLASS SIZE COUNT for each class that holds something, then e CLASSES, which says how many. Assumes nothing.
use Rattle.std.specs.Prelude.{ℕ, ◌+◌, cond, eqb, ltb}
use Rattle.oracle_lists.specs.declared.rows.Reader.{Reader}
use Rattle.oracle_lists.specs.declared.tally.Verdict.{Verdict}
use Rattle.oracle_lists.specs.declared.tally.Verdict.TheVariants.{Differs}

-- how many rows g came last, one after the other; there are 256 classes
unfoldable pub classes_after : Reader → ℕ → ℕ
classes_after r classes = cond (eqb r.letter 103) (cond (ltb classes 256) (classes + 1) 0) 0

-- a row e that says another number differs, whatever its verdict was
unfoldable pub whole_report : Reader → ℕ → Verdict → Verdict
whole_report r classes v = cond (eqb r.letter 101) (cond (eqb r.d classes) v Differs) v
