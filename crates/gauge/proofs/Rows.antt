-- The rows of specs/Claims.antt, and what -0 would do: computed. Assumes nothing.
use mathlib.Core.Path.{◌≡◌, refl}
use mathlib.Core.Bool.{true}
use Prim.Native.Nat.{ℕ}
use lib.Ieee as ieee
use lib.Ieee.{binary32}
use Rattle.gauge.specs.Rule.{nought, watch_after}
use Rattle.gauge.specs.Claims.{minus_nought, whole, readings}

pub row_8 : (readings 1 8).level ≡ whole 1
unfolding readings ieee.of_int ieee.add ieee.sub ieee.mul
row_8 = refl

pub row_256 : (readings 1 256).level ≡ whole 32
unfolding readings ieee.of_int ieee.add ieee.sub ieee.mul
row_256 = refl

pub row_255 : ieee.to_bits binary32 (readings 10 255).level ≡ 1128000109
unfolding readings ieee.of_int ieee.add ieee.sub ieee.mul ieee.to_bits
row_255 = refl

pub row_falls : ieee.to_bits binary32 (watch_after (readings 10 255) 0 0).level ≡ 1126460703
unfolding readings ieee.of_int ieee.add ieee.sub ieee.mul ieee.to_bits
row_falls = refl

pub row_peak : ieee.to_bits binary32 (watch_after (readings 10 255) 0 0).peak ≡ 1128000109
unfolding readings ieee.of_int ieee.add ieee.sub ieee.mul ieee.lt ieee.to_bits
row_peak = refl

pub row_order : ieee.to_bits binary32 (watch_after (readings 6 3) 0 250).level ≡ 1107478948
unfolding readings ieee.of_int ieee.add ieee.sub ieee.mul ieee.to_bits
row_order = refl

pub minus_nought_equal : ieee.eq (whole 0) minus_nought ≡ true
unfolding ieee.of_int ieee.eq
minus_nought_equal = refl

pub minus_nought_moves : (units : ℕ) → (watch_after (record { level = minus_nought; peak = nought; last = 0 }) units 0).level ≡ nought
unfolding watch_after ieee.of_int ieee.add ieee.sub ieee.mul
minus_nought_moves units = refl

pub minus_nought_bits : (ieee.to_bits binary32 minus_nought ≡ 2147483648) × (ieee.to_bits binary32 nought ≡ 0)
unfolding ieee.to_bits
minus_nought_bits = (refl, refl)
