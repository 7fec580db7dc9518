-- A promise fixes answer and words, and these fix the values of the code. Assumes nothing.
use mathlib.Core.Path.{◌≡◌, sym, ap, ◌∙◌}
use mathlib.Core.List.{List}
use Prim.Native.Nat.{ℕ}
use Rattle.ledger.specs.Ledger.{Answer}
use Rattle.tables.specs.Words.{Words, Edition}
use Rattle.tables.proofs.Promise.{answers_same, words_same, one_setup}
use Rattle.answers.proofs.OneValue.{one_value}
use Rattle.records.specs.declared.totals.Totals.{Totals}
use Rattle.records.specs.InWords.{words_of, totals_in}
use Rattle.records.proofs.InPlace.{placed}
use Rattle.offset_allocator.specs.OneResult.{ByValue, Form, in_place, by_value, OneResult, OneResultInBoth}

-- ---- words fix what they are made of
module _ (t u : Totals) (hs ls ns ps gs ks ms qs : List ℕ) (e : words_of t hs ls ns ps ≡ words_of u gs ks ms qs) where
  same_totals : t ≡ u
  same_totals = ap totals_in e

valued : (v u : ByValue) → by_value.words v ≡ by_value.words u → v ≡ u
valued v u e = λ i. record {
  head = record {
    totals = same_totals v.head.totals u.head.totals v.head.bin_indices v.head.used_bins v.nodes v.pile
        u.head.bin_indices u.head.used_bins u.nodes u.pile e i;
    bin_indices = (e i).bin_indices;
    used_bins = (e i).used_bins;
  };
  nodes = (e i).nodes;
  pile = (e i).pile;
}

-- ---- promises, in any form whose words fix what it leaves
one_result_in : (E : Edition) (F : Form) → ((v u : F.Left) → F.words v ≡ F.words u → v ≡ u) → OneResult E F
one_result_in E F fixed = record {
  of_setup = λ size count lent a b v u p q. (
    one_value.of_start a b (ap (λ (x : Answer × Words). x.0) (one_setup E size count lent p q)),
    fixed v u (ap (λ (x : Answer × Words). x.1) (one_setup E size count lent p q)),
  );
  of_reset = λ c w a b v u p q. (one_value.of_start a b (answers_same E p q), fixed v u (words_same E p q));
  of_take = λ c w a b v u p q. (one_value.of_take a b (answers_same E p q), fixed v u (words_same E p q));
  of_back = λ c w a b v u p q. (one_value.of_back a b (answers_same E p q), fixed v u (words_same E p q));
  of_size = λ q w a b p r. one_value.of_size a b (answers_same E p r);
  of_report = λ q w a b p r. one_value.of_report a b (answers_same E p r);
  of_full = λ q w a b l m z y p r. one_value.of_full a b l m z y (answers_same E p r);
  of_fill = λ q w a b p r. one_value.of_fill a b (answers_same E p r);
  of_audit = λ w scratch left other a b p q. (
    one_value.of_audit a b (ap (λ (x : Answer × List ℕ). x.0) (p.exact ∙ sym q.exact)),
    ap (λ (x : Answer × List ℕ). x.1) (p.exact ∙ sym q.exact),
  );
}

pub one_result : (E : Edition) → OneResultInBoth E
one_result E = record { placed = one_result_in E in_place placed; valued = one_result_in E by_value valued }
