-- A shift of 1 is a power of two, so the code clears just the two bits. Assumes nothing.
use Prim.Native.Nat.{◌/◌, ◌%◌, ◌<◌}
use mathlib.Core.Path.{refl}
use borrow.Author.Tests.{eq-eqb, ne_eqb}
use native.Mathlib.Omega.{arith}
use Rattle.bitmap.proofs.Shifted.{shl_one}
use Rattle.bitmap.proofs.bits.unmark.Goals as goal

pub returns-then-m-eq0 : goal.returns-then-m-eq0
returns-then-m-eq0 c =
    let h : c.args.c.0 / 8 < 32 = omega arith in
    let g : c.args.c.0 % 8 < 8 = omega arith in
    let e8 = shl_one 8 (c.args.c.0 % 8) g in
    let e32 = shl_one 32 (c.args.c.0 / 8) h in
    simp (e8, e32, eq-eqb _ _ (rw e8 at c.if-m-eq0.true)) (record { top_is = refl; leaves_are = refl })

pub returns : goal.returns
returns c =
    let g : c.args.c.0 % 8 < 8 = omega arith in
    let e8 = shl_one 8 (c.args.c.0 % 8) g in
    simp (e8, ne_eqb _ _ (rw e8 at c.if-m-eq0.false)) (record { top_is = refl; leaves_are = refl })
