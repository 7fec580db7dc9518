-- What the rule does with a level or a peak that is no number, or infinite, and with the net change: by cases, whatever the gauge was begun at.
-- Assumes nothing.
use mathlib.Core.Path.{◌≡◌, refl}
use mathlib.Core.Logic.{◌⊎◌, inl, inr}
use mathlib.Core.Bool.{Bool, true, false, cond}
use Prim.Native.Nat.{ℕ}
use lib.IntN.{pos, negsuc, ◌+ℤ◌, -ℤ-+ℤ_cancel, +ℤ_idr}
use lib.Ieee as ieee
use lib.Ieee.{Float, nan, inf, fin, binary32}
use Rattle.gauge.specs.Rule.{Watch, eighth, level_after, peak_after, net_change, watch_after}

pub of_nan : (fill : ℕ) → level_after nan fill ≡ nan
unfolding level_after ieee.add
of_nan fill = refl

-- the fill is finite or not: what is taken off is as infinite as the level, with the other sign
from_infinity : (minus : Bool) (y : Float) → ieee.add binary32 (inf minus) (ieee.mul binary32 (ieee.sub binary32 y (inf minus)) eighth) ≡ nan
unfolding ieee.add ieee.mul ieee.sub
from_infinity minus nan = refl
from_infinity true (inf true) = refl
from_infinity true (inf false) = refl
from_infinity false (inf true) = refl
from_infinity false (inf false) = refl
from_infinity true (fin s m e) = refl
from_infinity false (fin s m e) = refl

pub of_infinity : (minus : Bool) (fill : ℕ) → level_after (inf minus) fill ≡ nan
unfolding level_after
of_infinity minus fill = from_infinity minus (ieee.of_int binary32 (pos fill))

pub peak_of_nan : (level : Float) → peak_after nan level ≡ nan
unfolding peak_after ieee.lt
peak_of_nan level = refl

pub peak_of_infinity : (level : Float) → peak_after (inf false) level ≡ inf false
unfolding peak_after ieee.lt
peak_of_infinity nan = refl
peak_of_infinity (inf s) = refl
peak_of_infinity (fin s m e) = refl

pub level_of_nan : (peak : Float) → peak_after peak nan ≡ peak
unfolding peak_after ieee.lt
level_of_nan nan = refl
level_of_nan (inf s) = refl
level_of_nan (fin s m e) = refl

one_of_two : (t : Bool) (peak level : Float) → (cond t level peak ≡ peak) ⊎ (cond t level peak ≡ level)
one_of_two true peak level = inr refl
one_of_two false peak level = inl refl

pub peak_stays_or_is_level : (g : Watch) (units fill : ℕ)
    → ((watch_after g units fill).peak ≡ g.peak) ⊎ ((watch_after g units fill).peak ≡ (watch_after g units fill).level)
unfolding watch_after
peak_stays_or_is_level g units fill = one_of_two (ieee.lt g.peak (level_after g.level fill)) g.peak (level_after g.level fill)

-- ---- the net change
pub net_exact : (last units : ℕ) → net_change last units +ℤ pos last ≡ pos units
unfolding net_change
net_exact last units = -ℤ-+ℤ_cancel (pos units) (pos last)

pub from_0 : (units : ℕ) → net_change 0 units ≡ pos units
unfolding net_change
from_0 units = +ℤ_idr (pos units)

pub net_least : net_change 4294967295 0 ≡ negsuc 4294967294
unfolding net_change
net_least = refl

pub net_greatest : net_change 0 4294967295 ≡ pos 4294967295
unfolding net_change
net_greatest = refl
