-- No more is filled than the block holds. Assumes nothing.
use Rattle.std.proofs.Common.{◌≤◌, length}
use Rattle.streams.proofs.read_block.Given as goal

abbrev pub invariant-loop : goal.invariant-loop
invariant-loop g l = l.filled ≤ length l.block
