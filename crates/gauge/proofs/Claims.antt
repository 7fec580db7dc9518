-- The claims of specs/Claims.antt hold. Assumes nothing.
use mathlib.Core.Path.{◌≡◌, refl, ap}
use mathlib.Core.Bool.{true}
use Prim.Native.Nat.{ℕ, ◌≤◌}
use native.Mathlib.Nat.{le_refl}
use lib.Ieee as ieee
use lib.Ieee.{binary32}
use Rattle.gauge.specs.Rule.{Watch, watch_after, Reached}
use Rattle.gauge.specs.Claims.{GaugeClaims, whole}
use Rattle.gauge.proofs.Anything as anything
use Rattle.gauge.proofs.Rows as rows
use Rattle.gauge.proofs.Equal.{still_from}
use Rattle.gauge.proofs.Peak.{not_minus_lem, from_nought, to_whole}
use Rattle.gauge.proofs.Kept.{kept, rises}

still : {g : Watch} → Reached g → (units fill : ℕ) → fill ≤ 256 → ieee.eq (whole fill) g.level ≡ true → (watch_after g units fill).level ≡ g.level
unfolding watch_after
still {g} r units fill h e = let k = kept r in still_from g.level fill k.level_fits (not_minus_lem g.level 256 1 k.level_most) h e

counts_on : (g : Watch) (units fill : ℕ) → (watch_after g units fill).last ≡ units
unfolding watch_after
counts_on g units fill = refl

pub gauge_claims : GaugeClaims
gauge_claims = record {
  fits_32_bits = λ {g} r. ((kept r).level_fits, (kept r).peak_fits);
  still = λ {g} r units fill h e. still r units fill h e;
  still_bits = λ {g} r units fill h e. ap (ieee.to_bits binary32) (still r units fill h e);
  still_but_for_minus_nought = still_from;
  minus_nought_moves = λ units. (rows.minus_nought_equal, rows.minus_nought_moves units);
  minus_nought_bits = rows.minus_nought_bits;
  no_minus_nought = λ {g} r. (not_minus_lem g.level 256 1 (kept r).level_most, not_minus_lem g.peak 256 1 (kept r).peak_most);
  level_within = λ {g} r. (from_nought g.level 256 1 (kept r).level_most, to_whole g.level 256 (le_refl 256) (kept r).level_most);
  peak_within = λ {g} r. (from_nought g.peak 256 1 (kept r).peak_most, to_whole g.peak 256 (le_refl 256) (kept r).peak_most);
  peak_never_falls = λ {g} r units fill h. rises g units fill h (kept r);
  peak_is_highest = λ {g} r. (kept r).in_order;
  peak_stays_or_is_level = anything.peak_stays_or_is_level;
  of_nan = anything.of_nan;
  of_infinity = anything.of_infinity;
  peak_of_nan = anything.peak_of_nan;
  peak_of_infinity = anything.peak_of_infinity;
  level_of_nan = anything.level_of_nan;
  net_exact = anything.net_exact;
  net_least = anything.net_least;
  net_greatest = anything.net_greatest;
  first_counts_from_0 = anything.from_0;
  next_counts_from_this = counts_on;
  row_8 = rows.row_8;
  row_256 = rows.row_256;
  row_255 = rows.row_255;
  row_falls = rows.row_falls;
  row_peak = rows.row_peak;
  row_order = rows.row_order;
}
