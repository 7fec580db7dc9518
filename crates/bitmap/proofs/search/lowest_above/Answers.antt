-- The code is `low_in_bin`, at the next top bin that holds something. Assumes nothing.
use mathlib.Core.Path.{◌≡◌, refl, sym, ◌∙◌}
use mathlib.Core.Bool.{false}
use Prim.Native.Nat.{ℕ, ◌+◌, ◌/◌, ◌^◌, ◌≤◌, ◌<◌}
use native.Mathlib.Nat.{div-one, zero-add}
use native.Mathlib.Omega.{arith}
use lib.Dec.{eqb}
use lib.Count.{count_trailing_zeros}
use borrow.Author.Tests.{lt-ltb, eq-eqb, ne_eqb}
use Rattle.tables.specs.Search.{low_from, leaf_low, low_in_bin}
use Rattle.tables.proofs.MaskEnds.{trailing_below}
use Rattle.bitmap.proofs.Low.{low_none, low_below}
use Rattle.bitmap.proofs.search.lowest_above.Goals as goal

-- from leaf 0 on, the lowest set bit is the count of trailing zeros
from_leaf_0 : (m : ℕ) → eqb m 0 ≡ false → low_from m 0 ≡ count_trailing_zeros 32 m
unfolding low_from
from_leaf_0 m some = rw (div-one m, some, zero-add (count_trailing_zeros 32 m))

-- the top bin found is one of the 32
in_top : (top above found : ℕ) → above ≤ 32 → top < 2 ^ 32 → found ≡ low_from top above → eqb (top / 2 ^ above) 0 ≡ false → found < 32
in_top top above found a t e some = omega (arith, e, low_below 32 top above (omega arith) a t some)

pub returns-then-none_from : goal.returns-then-none_from
unfolding low_in_bin
returns-then-none_from c =
    rw (low_none c.args.used_bins_top (c.args.c.0 / 8 + 1) (sym c.none_from.ensures ∙ c.if-none_from.true)) tt

pub bounds-used_bins-i : goal.bounds-used_bins-i
bounds-used_bins-i c =
    let some = sym c.none_from.ensures ∙ c.if-none_from.false in
    in_top c.args.used_bins_top (c.args.c.0 / 8 + 1) c.lowest_bit_set_from-t.result (omega arith) (omega arith) c.lowest_bit_set_from-t.ensures.0 some

pub returns-then-m-eq0 : goal.returns-then-m-eq0
unfolding low_in_bin leaf_low
returns-then-m-eq0 c =
    let some = sym c.none_from.ensures ∙ c.if-none_from.false in
    let low = in_top c.args.used_bins_top (c.args.c.0 / 8 + 1) c.lowest_bit_set_from-t.result (omega arith) (omega arith) c.lowest_bit_set_from-t.ensures.0 some in
    rw (← c.lowest_bit_set_from-t.ensures.0, lt-ltb _ _ low, ← c.from-m.ensures, eq-eqb _ _ c.if-m-eq0.true) tt

pub returns : goal.returns
unfolding low_in_bin leaf_low
returns c =
    let some = sym c.none_from.ensures ∙ c.if-none_from.false in
    let low = in_top c.args.used_bins_top (c.args.c.0 / 8 + 1) c.lowest_bit_set_from-t.result (omega arith) (omega arith) c.lowest_bit_set_from-t.ensures.0 some in
    let set = ne_eqb _ _ c.if-m-eq0.false in
    let leaf = trailing_below 8 32 c.from-m.result (omega arith) (omega (arith, c.if-m-eq0.false)) (omega arith) in
    rw (
      c.lowest_bit_set_from.ensures.0,
      from_leaf_0 _ set,
      ← c.lowest_bit_set_from-t.ensures.0,
      lt-ltb _ _ low,
      ← c.from-m.ensures,
      set,
    ) (refl, omega (arith, leaf, low))
