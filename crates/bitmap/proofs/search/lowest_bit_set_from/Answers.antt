-- The code is `low_from`. Assumes nothing.
use Prim.Native.Nat.{◌/◌, ◌^◌}
use lib.Count.{trailing_le}
use borrow.Author.Tests.{eq-eqb, ne_eqb}
use Rattle.tables.specs.Search.{low_from}
use native.Mathlib.Omega.{arith}
use Rattle.bitmap.proofs.search.lowest_bit_set_from.Goals as goal

pub returns-then-rest-eq0 : goal.returns-then-rest-eq0
unfolding low_from
returns-then-rest-eq0 c = (rw (eq-eqb _ _ c.if-rest-eq0.true), omega arith)

pub overflow_add-result : goal.overflow_add-result
overflow_add-result c = omega (arith, trailing_le 32 (c.args.m / 2 ^ c.args.i))

pub returns : goal.returns
unfolding low_from
returns c = (rw (ne_eqb _ _ c.if-rest-eq0.false), omega (arith, trailing_le 32 (c.args.m / 2 ^ c.args.i)))
