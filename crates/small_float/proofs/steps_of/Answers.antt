-- A class below 8 is so many single units; any other has 8 to 15 steps. Assumes nothing.
use Prim.Native.Nat.{ℕ, ◌*◌, ◌^◌, ◌<◌}
use mathlib.Core.Path.{◌≡◌, sym}
use native.Mathlib.Omega.{arith}
use Rattle.small_float.specs.Class.{value}
use Rattle.small_float.proofs.Values.{value_small, value_large}
use Rattle.small_float.proofs.steps_of.Goals as goal

single : (c : ℕ) → c < 8 → c * 2 ^ 0 ≡ value c
single c h = omega (arith, value_small c h)

pub returns-then-class-lt-MANTISSA_VALUE : goal.returns-then-class-lt-MANTISSA_VALUE
returns-then-class-lt-MANTISSA_VALUE c = record { value = single _ c.if-class-lt-MANTISSA_VALUE.true; bits = (omega (arith, c.if-class-lt-MANTISSA_VALUE.true), omega arith) }

pub returns : goal.returns
returns c = record { value = sym (value_large _ c.if-class-lt-MANTISSA_VALUE.false); bits = (omega arith, omega arith) }
