-- A number that is not 0 has at most 31 leading zeros. Assumes nothing.
use Prim.Native.Nat.{ℕ, ◌^◌, ◌<◌, ◌≤◌}
use mathlib.Core.Path.{refl}
use lib.Count.{count_leading_zeros, leading_top}
use Rattle.tables.specs.Search.{high_bit}
use native.Mathlib.Omega.{arith}
use Rattle.bitmap.proofs.search.highest_bit_set.Goals as goal

few : (m : ℕ) → 0 < m → m < 2 ^ 32 → count_leading_zeros 32 m ≤ 31
few m p q = let l = leading_top 32 m p q in omega (arith, l.1)

pub overflow_sub-result : goal.overflow_sub-result
overflow_sub-result c = omega (arith, few c.args.m c.requires (omega arith))

pub returns : goal.returns
unfolding high_bit
returns c = (refl, omega (arith, few c.args.m c.requires (omega arith)))
