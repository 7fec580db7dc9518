-- 1 for a byte that is not 0. Assumes nothing.
use mathlib.Core.Path.{sym}
use Rattle.tables.proofs.Masks.{non_zero_some, non_zero_zero}
use native.Mathlib.Omega.{arith}
use Rattle.audit_lists.proofs.bits.non_zero.Goals as goal

pub returns-then-leaf-eq0 : goal.returns-then-leaf-eq0
returns-then-leaf-eq0 c = rw c.if-leaf-eq0.true (sym non_zero_zero, omega arith)

pub returns : goal.returns
returns c = (sym (non_zero_some c.args.leaf (omega (arith, c.if-leaf-eq0.false))), omega arith)
