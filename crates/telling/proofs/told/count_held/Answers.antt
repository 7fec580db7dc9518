-- Of the classes that have been passed those are counted that hold something, and no more than they are. Assumes nothing.
use Prim.Native.Nat.{ℕ, ◌+◌}
use mathlib.Core.Path.{◌≡◌, refl, ap, ◌∙◌}
use mathlib.Core.List.{List}
use native.Mathlib.Numerals.{add-one}
use native.Mathlib.Omega.{arith}
use lib.ListN.{get_or}
use Rattle.telling.specs.Told.{one_if_held}
use Rattle.telling.proofs.Columns.{held_below, held_in_columns}
use Rattle.telling.proofs.told.count_held.Goals as goal

one_more : (counts : List ℕ) (i : ℕ) → held_below (i + 1) counts ≡ held_below i counts + one_if_held (get_or counts i 0)
unfolding held_below
one_more counts i = rw add-one

none_yet : (counts : List ℕ) → 0 ≡ held_below 0 counts
unfolding held_below
none_yet counts = refl

pub loop-i-init : goal.loop-i-init
loop-i-init c = (omega arith, none_yet _)

pub count_one-held-requires : goal.count_one-held-requires
count_one-held-requires c = omega arith

pub loop-i-preserved : goal.loop-i-preserved
loop-i-preserved c =
    (omega arith, omega (arith, c.count_one-held.ensures.1, c.loop-i.invariant.1, one_more c.args.counts.now c.loop-i.i))

pub returns : goal.returns
returns c sizes =
    let whole : c.loop-i.i ≡ 256 = omega arith in
    c.loop-i.invariant.1 ∙ ap (λ n. held_below n c.args.counts.now) whole ∙ held_in_columns sizes c.args.counts.now
