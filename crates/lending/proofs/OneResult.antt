-- A promise fixes answer and words, and these fix the values of the code. Assumes nothing.
use mathlib.Core.Path.{◌≡◌, sym, ap, ◌∙◌}
use lib.ListN.{length}
use Rattle.tables.specs.Words.{Words, Edition}
use Rattle.tables.proofs.Promise.{answers_same, words_same}
use Rattle.answers.proofs.OneValue.{one_value}
use Rattle.records.specs.InWords.{in_array, totals_in}
use Rattle.records.proofs.Arrays.{array_facts}
use Rattle.lending.specs.OneResult.{AllLent, lent_words, OneLentResult}

placed : (v u : AllLent) → length v.scalars ≡ 5 → length u.scalars ≡ 5 → lent_words v ≡ lent_words u → v ≡ u
placed v u fv fu e = λ i. record {
  scalars = (sym (array_facts.in_of v.scalars fv) ∙ ap (λ (w : Words). in_array (totals_in w)) e ∙ array_facts.in_of u.scalars fu) i;
  bin_indices = (e i).bin_indices;
  used_bins = (e i).used_bins;
  nodes = (e i).nodes;
  pile = (e i).pile;
}

pub one_lent_result : (E : Edition) → OneLentResult E
one_lent_result E = record {
  of_take = λ c w a b v u fv fu p q. (one_value.of_take a b (answers_same E p q), placed v u fv fu (words_same E p q));
  of_back = λ c w a b v u fv fu p q. (one_value.of_back a b (answers_same E p q), placed v u fv fu (words_same E p q));
}
