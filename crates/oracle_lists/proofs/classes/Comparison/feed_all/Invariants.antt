-- What the whole list makes of the start is what the rest of it makes of the present. Assumes nothing.
use Rattle.std.proofs.Common.{◌≡◌, drop}
use Rattle.oracle_lists.specs.Comparison.{after_bytes}
use Rattle.oracle_lists.proofs.classes.Comparison.feed_all.Given as goal

abbrev pub invariant-loop-byte : goal.invariant-loop-byte
invariant-loop-byte l = after_bytes l.fn.self l.bytes ≡ after_bytes l.comparison (drop l.byte-index l.bytes)
