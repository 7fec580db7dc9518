-- What every gauge begun at 0 keeps, by induction over its readings. Assumes nothing.
use Prim.Native.Nat.{ℕ, ◌≤◌}
use native.Mathlib.Omega.{arith}
use lib.Dec.{T}
use lib.IntN.{pos}
use lib.Ieee as ieee
use lib.Ieee.{Float, binary32, fits}
use lib.Ieee.Fits.{add-fits}
use Rattle.gauge.specs.Rule.{Watch, eighth, level_after, watch_after, Reached, at_first, after}
use Rattle.gauge.proofs.AtMost.{AtMost}
use Rattle.gauge.proofs.Within.{level_kept}
use Rattle.gauge.proofs.Peak.{greater, peak_fits, peak_kept}

pub record Kept (g : Watch) : Type 0 where
  pub level_fits : T (fits binary32 g.level)
  pub peak_fits : T (fits binary32 g.peak)
  pub level_most : AtMost g.level 256 1
  pub peak_most : AtMost g.peak 256 1
  pub in_order : T (ieee.le g.level g.peak)

after_fits : (level : Float) (fill : ℕ) → T (fits binary32 (level_after level fill))
unfolding level_after
after_fits level fill = add-fits binary32 level (ieee.mul binary32 (ieee.sub binary32 (ieee.of_int binary32 (pos fill)) level) eighth)

once : (g : Watch) (units fill : ℕ) → fill ≤ 256 → Kept g → Kept (watch_after g units fill)
unfolding watch_after
once g units fill h k =
    let now : Float = level_after g.level fill in
    let most : AtMost now 256 1 = level_kept g.level fill k.level_fits k.level_most h in
    record {
      level_fits = after_fits g.level fill;
      peak_fits = peak_fits g.peak now k.peak_fits (after_fits g.level fill);
      level_most = most;
      peak_most = peak_kept g.peak now 256 1 k.peak_most most;
      in_order = (greater g.peak now 256 1 k.peak_most most).than_level;
    }

pub kept : {g : Watch} → Reached g → Kept g
unfolding fits ieee.le
kept at_first = record { level_fits = tt; peak_fits = tt; level_most = omega arith; peak_most = omega arith; in_order = tt }
kept (after {g} units fill h r) = once g units fill h (kept r)

-- the next reading's peak
pub rises : (g : Watch) (units fill : ℕ) → fill ≤ 256 → Kept g → T (ieee.le g.peak (watch_after g units fill).peak)
unfolding watch_after
rises g units fill h k =
    (greater g.peak (level_after g.level fill) 256 1 k.peak_most (level_kept g.level fill k.level_fits k.level_most h)).than_peak
