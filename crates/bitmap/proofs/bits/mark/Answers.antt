-- A shift of 1 is a power of two, so the code sets just the two bits. Assumes nothing.
use Prim.Native.Nat.{◌/◌, ◌%◌, ◌<◌}
use mathlib.Core.Path.{refl}
use native.Mathlib.Omega.{arith}
use Rattle.bitmap.proofs.Shifted.{shl_one}
use Rattle.bitmap.proofs.bits.mark.Goals as goal

pub returns : goal.returns
returns c =
    let h : c.args.c.0 / 8 < 32 = omega arith in
    let g : c.args.c.0 % 8 < 8 = omega arith in
    simp (shl_one 32 (c.args.c.0 / 8) h, shl_one 8 (c.args.c.0 % 8) g) (record { top_is = refl; leaves_are = refl })
