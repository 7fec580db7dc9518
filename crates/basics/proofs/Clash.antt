-- Two constructors are never equal. Where the equations at hand say that they are, cc proves 0 ≡ 1, and `clash (cc)` proves any goal.
-- Assumes nothing.
use mathlib.Core.Path.{◌≡◌}
use mathlib.Core.Bool.{Bool, true, false}
use Prim.Native.Nat.{ℕ}
use native.Mathlib.Omega.{arith}

pub clash : {A : Type 0} → ◌≡◌ {A = ℕ} 0 1 → A
clash e = absurd (omega arith)

-- so a test does not say both no and yes
pub no_is_not_yes : {A : Type 0} → false ≡ true → A
no_is_not_yes e = clash (cc)

pub no_and_yes : {A : Type 0} {r : Bool} → r ≡ false → r ≡ true → A
no_and_yes p q = clash (cc)
