-- The tests are those of `plan_region`; that offset and length pass the size is tested by differences, which cannot wrap. Assumes nothing.
use lib.Dec.{ltb}
use mathlib.Core.Bool.{true, false}
use mathlib.Core.Path.{◌≡◌}
use Prim.Native.Nat.{ℕ, ◌+◌, ◌-◌, ◌≤◌, ◌<◌}
use borrow.Author.Tests.{lt-ltb, le-ltb, eq-eqb, ne_eqb}
use Rattle.tables.specs.Take.{plan_spare, plan_region}
use native.Mathlib.Omega.{arith}
use Rattle.take_plan.proofs.plan_region.Goals as goal

-- offset and length pass the size: by the length alone, by what the length leaves, or not at all
past_by_length : (size long offset : ℕ) → size < long → ltb size (offset + long) ≡ true
past_by_length size long offset h = lt-ltb size (offset + long) (omega arith)

past_by_offset : (size long offset : ℕ) → long ≤ size → size - long < offset → ltb size (offset + long) ≡ true
past_by_offset size long offset h k = lt-ltb size (offset + long) (omega arith)

inside : (size long offset : ℕ) → long ≤ size → offset ≤ size - long → ltb size (offset + long) ≡ false
inside size long offset h k = le-ltb size (offset + long) (omega arith)

pub returns-then-long-wanted : goal.returns-then-long-wanted
unfolding plan_region
returns-then-long-wanted c = rw (lt-ltb _ _ c.if-long-wanted.true)

pub returns-then-t-long : goal.returns-then-t-long
unfolding plan_region
returns-then-t-long c =
    rw (le-ltb _ _ c.if-long-wanted.false, past_by_length c.args.t.size c.args.length.0 c.args.region.offset c.if-t-long.true)

pub returns-then-t-long-2 : goal.returns-then-t-long-2
unfolding plan_region
returns-then-t-long-2 c =
    rw (le-ltb _ _ c.if-long-wanted.false, past_by_offset c.args.t.size c.args.length.0 c.args.region.offset c.if-t-long.false c.if-t-long-2.true)

pub returns-then-t-wanted : goal.returns-then-t-wanted
unfolding plan_region
returns-then-t-wanted c =
    rw (le-ltb _ _ c.if-long-wanted.false, inside c.args.t.size c.args.length.0 c.args.region.offset c.if-t-long.false c.if-t-long-2.false, lt-ltb _ _ c.if-t-wanted.true)

pub returns-then-long-wanted-2 : goal.returns-then-long-wanted-2
unfolding plan_region
returns-then-long-wanted-2 c =
    rw (
      le-ltb _ _ c.if-long-wanted.false,
      inside c.args.t.size c.args.length.0 c.args.region.offset c.if-t-long.false c.if-t-long-2.false,
      le-ltb _ _ c.if-t-wanted.false,
      eq-eqb _ _ c.if-long-wanted-2.true,
    )

pub returns : goal.returns
unfolding plan_region plan_spare
returns c =
    rw (
      c.plan_spare.ensures,
      le-ltb _ _ c.if-long-wanted.false,
      inside c.args.t.size c.args.length.0 c.args.region.offset c.if-t-long.false c.if-t-long-2.false,
      le-ltb _ _ c.if-t-wanted.false,
      ne_eqb _ _ c.if-long-wanted-2.false,
    )
