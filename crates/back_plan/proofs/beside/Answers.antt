-- A free neighbour is below the count, so its words are in the table. Assumes nothing.
use mathlib.Core.Path.{refl, sym, ◌∙◌}
use Rattle.tables.proofs.Guards.{free_below}
use native.Mathlib.Omega.{arith}
use Rattle.back_plan.proofs.beside.Goals as goal

pub word-requires : goal.word-requires
word-requires c =
    let low = free_below _ _ _ (sym c.is_free.ensures ∙ c.if-is_free.true) in
    omega (arith, low, c.requires)

pub word-requires-then-is_free : goal.word-requires-then-is_free
word-requires-then-is_free c =
    let low = free_below _ _ _ (sym c.is_free.ensures ∙ c.if-is_free.true) in
    omega (arith, low, c.requires)

pub word-requires-then-is_free-2 : goal.word-requires-then-is_free-2
word-requires-then-is_free-2 c =
    let low = free_below _ _ _ (sym c.is_free.ensures ∙ c.if-is_free.true) in
    omega (arith, low, c.requires)

pub returns-then-is_free : goal.returns-then-is_free
returns-then-is_free c =
    let taken = sym c.is_free.ensures ∙ c.if-is_free.true in
    record {
      link_is = refl;
      free_is = sym taken;
      length_is = rw (taken, c.word.ensures);
      offset_is = rw (taken, c.word-then-is_free.ensures);
      beyond_is = rw (taken, c.word-then-is_free-2.ensures);
    }

pub returns : goal.returns
returns c =
    let left = sym c.is_free.ensures ∙ c.if-is_free.false in
    record { link_is = refl; free_is = sym left; length_is = rw left; offset_is = rw left; beyond_is = rw left }
