-- One answer, flattened, is one result; a promise fixes its answer and what it leaves. Assumes nothing.
use Rattle.std.specs.Prelude.{Result}
use Rattle.answers.specs.declared.Refusal.{Refusal}
use mathlib.Core.Path.{◌≡◌, sym, ap, ◌∙◌}
use mathlib.Core.List.{List}
use Prim.Native.Nat.{ℕ}
use Rattle.tables.specs.Words.{Words, Edition}
use Rattle.tables.proofs.Promise.{answers_same, words_same, one_setup}
use Rattle.ledger.specs.Ledger.{Answer}
use Rattle.answers.specs.declared.FullAnswer.{FullAnswer}
use Rattle.answers.proofs.OneValue.{one_value}
use Rattle.records.specs.InWords.{in_array, totals_in}
use Rattle.records.proofs.Arrays.{array_facts}
use Rattle.host_values.specs.Tells.{Tells}
use Rattle.host_values.specs.Told.{FullTold}
use Rattle.host_values.specs.OneResult.{OneOutcome, OneResult, OnePromised}

pub one_flat : {A R Left : Type 0} (flat : A → R) (Promised : Left → A → Type 0) → OneResult flat Promised
one_flat flat Promised = record {
  one_result = λ one v u r s p q.
      let same = one v u p.given q.given p.promised q.promised in
      (p.told ∙ ap flat same.0 ∙ sym q.told, same.1);
}

-- where a model says both the answer and what is left
pub by_model : {A Left : Type 0} (Promised : Left → A → Type 0) (model : A × Left)
    → ((v : Left) (a : A) → Promised v a → ◌≡◌ {A = A × Left} (a, v) model) → OneOutcome Promised
by_model {A = A} {Left = Left} Promised model exact v u a b p q =
    let same = exact v a p ∙ sym (exact u b q) in
    (ap (λ (x : A × Left). x.0) same, ap (λ (x : A × Left). x.1) same)

-- where nothing is left
pub one_told : {A R : Type 0} (flat : A → R) (Promised : A → Type 0) → ((a b : A) → Promised a → Promised b → a ≡ b)
    → (r s : R) → Tells flat Promised r → Tells flat Promised s → r ≡ s
one_told flat Promised one r s p q = p.told ∙ ap flat (one p.given q.given p.promised q.promised) ∙ sym q.told

-- the columns with their outcome are an answer of the code
abbrev full : (sizes counts : List ℕ) → Result Unit Refusal → FullAnswer
full sizes counts o = record { outcome = o; sizes = sizes; counts = counts }

one_full : (E : Edition) (w : Words) → OneOutcome {A = Result Unit Refusal} {Left = List ℕ × List ℕ} (λ columns. FullTold E w columns.0 columns.1)
one_full E w v u o n p q =
    let same = one_value.of_full (full v.0 v.1 o) (full u.0 u.1 n) p.places q.places p.figures q.figures
    (answers_same E p.exact q.exact) in
    (ap (λ (x : FullAnswer). x.outcome) same, ap (λ (x : FullAnswer). (x.sizes, x.counts)) same)

pub one_promised : (E : Edition) → OnePromised E
one_promised E = record {
  of_call = λ c w v u a b p q. (answers_same E p q, words_same E p q);
  of_setup = λ size count lent v u a b p q. (
    ap (λ (x : Answer × Words). x.0) (one_setup E size count lent p q),
    ap (λ (x : Answer × Words). x.1) (one_setup E size count lent p q),
  );
  of_full = one_full E;
  same_scalars = λ s t hs ls ns ps gs ks ms qs five five-too e.
      sym (array_facts.in_of s five) ∙ ap (λ (w : Words). in_array (totals_in w)) e ∙ array_facts.in_of t five-too;
}
