-- A free region stands in the stack of its class. Assumes nothing.
use mathlib.Core.Path.{◌≡◌}
use Prim.Native.Nat.{ℕ, ◌≤◌, ◌+◌}
use native.Mathlib.Omega.{arith}
use mathlib.Core.List.{List, [], ◌∷◌}
use lib.Dec.{eqb}
use Rattle.basics.specs.Sum.{is, tally}
use Rattle.basics.proofs.Decided.{eqb_same}
use Rattle.basics.proofs.Sums.{both_second}
use Rattle.small_float.specs.Class.{down}
use Rattle.ledger.specs.Ledger.{Region, live, free, stands, Stacks, by_class, beside}
use Rattle.ledger.specs.WellFormed.{has}
use Rattle.ledger.proofs.Stacks.{tally_without}

-- a free region stands in its own class, and only a region that has a record stands for it
pub stands_own : (n r : ℕ) → stands (down n) r (free n r) ≡ 1
stands_own n r = rw (eqb_same (down n), eqb_same r)

pub stands_le : (c r : ℕ) (x : Region) → stands c r x ≤ has r x
stands_le c r (live n q) = omega arith
stands_le c r (free n q) = both_second (eqb c (down n)) (eqb q r)

-- one side of a region handed back: the stacks lose what the side loses
pub side_stands : (stacks : Stacks) (side : List Region) → ((c i : ℕ) → tally (stands c i) side ≤ tally (is i) (stacks c))
    → (c i : ℕ) → tally (is i) ((beside by_class side stacks).index c) + tally (stands c i) side
    ≡ tally (is i) (stacks c) + tally (stands c i) (beside by_class side stacks).rest
unfolding beside
side_stands stacks [] h c i = omega arith
side_stands stacks (live n r ∷ rest) h c i = omega arith
side_stands stacks (free n r ∷ rest) h c i =
    omega (arith, tally_without (down n) r stacks c i (omega (arith, h (down n) r, stands_own n r)))
