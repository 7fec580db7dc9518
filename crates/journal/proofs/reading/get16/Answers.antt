-- Two bytes make the number. Assumes nothing.
use native.Mathlib.Omega.{arith}
use Rattle.journal.proofs.Numbers.{two_bytes}
use Rattle.journal.proofs.reading.get16.Goals as goal

pub returns : goal.returns
returns c = let made = two_bytes c.args.bytes.now c.args.at (omega arith) in (omega (arith, made), omega arith)
