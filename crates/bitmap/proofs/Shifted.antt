-- A shift of 1 is a power of two. Assumes nothing.
use mathlib.Core.Path.{◌≡◌, ◌∙◌}
use Prim.Native.Nat.{ℕ, ◌*◌, ◌%◌, ◌^◌, ◌<◌}
use native.Mathlib.Nat.{one-mul}
use native.Mathlib.Omega.{arith}
use lib.Pow.{shl_exact}

-- 1 << k at a width of n bits
pub shl_one : (n k : ℕ) → k < n → (1 * 2 ^ k) % 2 ^ n ≡ 2 ^ k
shl_one n k h = shl_exact {a = 1} 1 k n (omega arith) (omega arith) ∙ one-mul (2 ^ k)
