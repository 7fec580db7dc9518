-- Any two outcomes of a call that comes as a value coincide. Assumes nothing.
use mathlib.Core.Path.{◌≡◌, sym, ap, ◌∙◌}
use Rattle.ledger.specs.Ledger.{Answer}
use Rattle.tables.specs.Words.{Words, Edition}
use Rattle.calls.specs.declared.Call.{Call}
use Rattle.calls.specs.declared.Call.TheVariants.{Take, HandBack, SetUp, Reset}
use Rattle.calls.specs.Values.{says}
use Rattle.calls.proofs.OneValue.{one_value}
use Rattle.records.specs.InWords.{placed_words}
use Rattle.records.proofs.InPlace.{placed}
use Rattle.calling.specs.Makes.{Makes, OneMade}

-- one model, one outcome
one : {x : Answer × Words} (a b : Answer) (v u : Words) → (a, v) ≡ x → (b, u) ≡ x → (a ≡ b) × (v ≡ u)
one a b v u p q =
    let same : ◌≡◌ {A = Answer × Words} (a, v) (b, u) = p ∙ sym q in
    (ap (λ (o : Answer × Words). o.0) same, ap (λ (o : Answer × Words). o.1) same)

one_made : (E : Edition) (c : Call) (w v u : Words) (a b : Answer) → Makes E c w v a → Makes E c w u b → (a ≡ b) × (v ≡ u)
one_made E (Take size) w v u a b p q = one a b v u p.promised.exact q.promised.exact
one_made E (HandBack span) w v u a b p q = one a b v u p.promised.exact q.promised.exact
one_made E (SetUp size count) w v u a b p q = one a b v u p.promised.exact q.promised.exact
one_made E Reset w v u a b p q = one a b v u p.promised.exact q.promised.exact

pub one_of_them : (E : Edition) → OneMade E
one_of_them E = record {
  one_made = one_made E;
  one_result = λ c w a b v u p q.
      let same = one_made E c w (placed_words v) (placed_words u) (says a) (says b) p q in
      (one_value.of_any a b same.0, placed v u same.1);
}
