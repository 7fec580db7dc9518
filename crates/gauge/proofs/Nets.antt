-- The difference of two 32-bit numbers is a signed 64-bit number, and the machine's. Assumes nothing.
use Prim.Native.Nat.{ℕ, zero, suc, ◌-◌, ◌<◌, ◌^◌}
use native.Mathlib.Omega.{arith}
use mathlib.Core.Bool.{Bool, true, false, cond}
use mathlib.Core.Path.{◌≡◌, refl, sym, ap, subst, ◌∙◌}
use lib.Dec.{ltb}
use lib.IntN.{ℤ, pos, negsuc, ◌-ℤ◌}
use mir.Val.{SFits, to_z, of_z}
use mir.Syntax.{w64}
use mir.Facts.{to_z_pos, to_z-of_z}

module _ (a b : ℕ) (a-fits : a < 2 ^ 32) (b-fits : b < 2 ^ 32) where
  -- whichever is greater
  by_order : (t : Bool) → ltb a b ≡ t → SFits w64 (cond t (negsuc (b - suc a)) (pos (a - b)))
  by_order true e = record { sfits = omega arith }
  by_order false e = record { sfits = omega arith }

wide : (a : ℕ) → a < 2 ^ 32 → to_z w64 a ≡ pos a
wide a h = to_z_pos w64 (omega arith)

difference_fits : (a b : ℕ) → a < 2 ^ 32 → b < 2 ^ 32 → SFits w64 (pos a -ℤ pos b)
difference_fits a zero a-fits b-fits = record { sfits = omega arith }
difference_fits a (suc b) a-fits b-fits = by_order a (suc b) a-fits b-fits (ltb a (suc b)) refl

module _ (a b : ℕ) (a-fits : a < 2 ^ 32) (b-fits : b < 2 ^ 32) where
  read_back : to_z w64 a -ℤ to_z w64 b ≡ pos a -ℤ pos b
  read_back = ap (λ (x : ℤ). x -ℤ to_z w64 b) (wide a a-fits) ∙ ap (λ (y : ℤ). pos a -ℤ y) (wide b b-fits)

  pub net_fits : SFits w64 (to_z w64 a -ℤ to_z w64 b)
  net_fits = subst (SFits w64) (sym read_back) (difference_fits a b a-fits b-fits)

  pub net_is : to_z w64 (of_z w64 (to_z w64 a -ℤ to_z w64 b)) ≡ pos a -ℤ pos b
  net_is = to_z-of_z net_fits ∙ read_back
