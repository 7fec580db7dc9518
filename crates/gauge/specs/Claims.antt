-- What holds of the rule, beside the rule itself: one record, which proofs/Claims.antt makes. `Reached g` is "any gauge begun at 0". Assumes nothing.
use Rattle.std.specs.Prelude.{◌≡◌, ◌≢◌, ◌⊎◌, Bool, true, false, ℕ, zero, suc, ◌≤◌, T, pos, negsuc, ◌+ℤ◌, Float}
use Rattle.std.specs.Float.Ieee as ieee
use Rattle.std.specs.Float.{nan, inf, fin, binary32}
use Rattle.std.specs.Float.Ieee.{fits}
use Rattle.gauge.specs.Rule.{Watch, nought, begun, level_after, peak_after, net_change, watch_after, Reached}

-- it compares equal to 0 and has other bits
abbrev pub minus_nought : Float
minus_nought = fin true 0 (pos 0)

-- a fill as the float that it is compared with
abbrev pub whole : ℕ → Float
whole fill = ieee.of_int binary32 (pos fill)

-- the gauge begun at 0 after so many readings, all of one fill
unfoldable pub readings : (count fill : ℕ) → Watch
unfolding watch_after
readings zero fill = begun
readings (suc n) fill = watch_after (readings n fill) 0 fill

pub record GaugeClaims : Type 0 where
  -- ---- any gauge begun at 0
  -- "The gauge keeps a level and a peak as 32-bit floats": both are values of the format
  pub fits_32_bits : {g : Watch} → Reached g → T (fits binary32 g.level) × T (fits binary32 g.peak)
  -- "in any gauge begun at 0 a fill equal to the level leaves the level's bits alone": it leaves the level, so its bits
  pub still : {g : Watch} → Reached g → (units fill : ℕ) → fill ≤ 256 → ieee.eq (whole fill) g.level ≡ true → (watch_after g units fill).level ≡ g.level
  pub still_bits : {g : Watch} → Reached g → (units fill : ℕ) → fill ≤ 256 → ieee.eq (whole fill) g.level ≡ true
      → ieee.to_bits binary32 (watch_after g units fill).level ≡ ieee.to_bits binary32 g.level
  -- whatever a gauge was begun at: that takes a level which is a value of the format, and not -0
  pub still_but_for_minus_nought : (level : Float) (fill : ℕ) → T (fits binary32 level) → level ≢ minus_nought → fill ≤ 256
      → ieee.eq (whole fill) level ≡ true → level_after level fill ≡ level
  -- at -0 a fill of 0 is equal to the level and changes its bits
  pub minus_nought_moves : (units : ℕ)
      → (ieee.eq (whole 0) minus_nought ≡ true) × ((watch_after (record { level = minus_nought; peak = nought; last = 0 }) units 0).level ≡ nought)
  pub minus_nought_bits : (ieee.to_bits binary32 minus_nought ≡ 2147483648) × (ieee.to_bits binary32 nought ≡ 0)
  -- but no gauge begun at 0 keeps it
  pub no_minus_nought : {g : Watch} → Reached g → (g.level ≢ minus_nought) × (g.peak ≢ minus_nought)
  -- both lie between an empty store and a full one
  pub level_within : {g : Watch} → Reached g → T (ieee.le nought g.level) × T (ieee.le g.level (whole 256))
  pub peak_within : {g : Watch} → Reached g → T (ieee.le nought g.peak) × T (ieee.le g.peak (whole 256))
  -- "peak becomes the new level if that is greater": so it does not fall, and no level is above it
  pub peak_never_falls : {g : Watch} → Reached g → (units fill : ℕ) → fill ≤ 256 → T (ieee.le g.peak (watch_after g units fill).peak)
  pub peak_is_highest : {g : Watch} → Reached g → T (ieee.le g.level g.peak)
  -- ---- any gauge at all, whatever it was begun at
  pub peak_stays_or_is_level : (g : Watch) (units fill : ℕ)
      → ((watch_after g units fill).peak ≡ g.peak) ⊎ ((watch_after g units fill).peak ≡ (watch_after g units fill).level)
  -- no reading mends a level that is no number, and an infinite one becomes no number
  pub of_nan : (fill : ℕ) → level_after nan fill ≡ nan
  pub of_infinity : (minus : Bool) (fill : ℕ) → level_after (inf minus) fill ≡ nan
  -- nothing is greater than such a peak, and a level that is no number is greater than none
  pub peak_of_nan : (level : Float) → peak_after nan level ≡ nan
  pub peak_of_infinity : (level : Float) → peak_after (inf false) level ≡ inf false
  pub level_of_nan : (peak : Float) → peak_after peak nan ≡ peak
  -- ---- the net change
  -- "exact over the whole range of sizes"
  pub net_exact : (last units : ℕ) → net_change last units +ℤ pos last ≡ pos units
  -- its ends: from a full store of 4,294,967,295 units to an empty one, and back
  pub net_least : net_change 4294967295 0 ≡ negsuc 4294967294
  pub net_greatest : net_change 0 4294967295 ≡ pos 4294967295
  -- "the first counts from 0"
  pub first_counts_from_0 : (units : ℕ) → net_change begun.last units ≡ pos units
  -- the next counts from this one
  pub next_counts_from_this : (g : Watch) (units fill : ℕ) → (watch_after g units fill).last ≡ units
  -- ---- rows: the first reading of a fill of 8 and of 256; the bits after ten readings of 255, four of which are inexact, and after one of 0 behind them,
  -- which leaves the peak
  pub row_8 : (readings 1 8).level ≡ whole 1
  pub row_256 : (readings 1 256).level ≡ whole 32
  pub row_255 : ieee.to_bits binary32 (readings 10 255).level ≡ 1128000109
  pub row_falls : ieee.to_bits binary32 (watch_after (readings 10 255) 0 0).level ≡ 1126460703
  pub row_peak : ieee.to_bits binary32 (watch_after (readings 10 255) 0 0).peak ≡ 1128000109
  -- "each operation rounded once in that order": six readings of 3, then one of 250. Rounded once, at its end, or as level * 0.875 + fill * 0.125, or as
  -- (7 * level + fill) * 0.125, it is 1107478947
  pub row_order : ieee.to_bits binary32 (watch_after (readings 6 3) 0 250).level ≡ 1107478948
