-- Words fix what they are made of. Assumes nothing.
use mathlib.Core.Path.{◌≡◌, ap}
use Rattle.records.specs.InWords.{totals_in, InPlace, placed_words}

pub placed : (v u : InPlace) → placed_words v ≡ placed_words u → v ≡ u
placed v u e = λ i. record {
  totals = ap totals_in e i;
  bin_indices = (e i).bin_indices;
  used_bins = (e i).used_bins;
  nodes = (e i).nodes;
  pile = (e i).pile;
}
