-- The code is `find_class`. Assumes nothing.
use mathlib.Core.Path.{refl, sym, ◌∙◌}
use Prim.Native.Nat.{◌%◌, ◌<◌}
use native.Mathlib.Omega.{arith}
use borrow.Author.Tests.{lt-ltb}
use Rattle.tables.specs.Search.{leaf_or_above, find_class}
use Rattle.bitmap.proofs.Low.{low_none, low_below}
use Rattle.bitmap.proofs.search.find_class.Goals as goal

pub returns-then-none_from : goal.returns-then-none_from
unfolding find_class leaf_or_above
returns-then-none_from c =
    let none = sym c.none_from.ensures ∙ c.if-none_from.true in
    rw (← c.from-m.ensures, low_none c.from-m.result (c.args.c.0 % 8) none) c.lowest_above.ensures

pub returns : goal.returns
unfolding find_class leaf_or_above
returns c =
    let some = sym c.none_from.ensures ∙ c.if-none_from.false in
    let low = low_below 8 c.from-m.result (c.args.c.0 % 8) (omega arith) (omega arith) (omega arith) some in
    let in_leaf : c.lowest_bit_set_from.result < 8 = omega (arith, c.lowest_bit_set_from.ensures.0, low) in
    rw (← c.from-m.ensures, ← c.lowest_bit_set_from.ensures.0, lt-ltb _ _ in_leaf) (refl, omega (arith, in_leaf))
