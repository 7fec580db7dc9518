-- A call whose answer and words are the model's keeps all that it promises, and its promise allows one outcome. Assumes nothing.
use mathlib.Core.Path.{◌≡◌, refl, sym, ap, subst, ◌∙◌}
use Prim.Native.Nat.{ℕ, ◌^◌, ◌<◌}
use Rattle.ledger.specs.Ledger.{Answer, setup, by_class}
use Rattle.ledger.specs.Calls.{Call, answer}
use Rattle.tables.specs.Words.{Words, Edition}
use Rattle.tables.specs.Setup.{Lent, setup_words}
use Rattle.tables.specs.Calls.{answer_words}
use Rattle.tables.specs.Sound.{Sound}
use Rattle.tables.specs.Promise.{Promise, SetupPromise, PromiseMeans}
use Rattle.tables.proofs.Kept.{refused_kept, grant_inside}
use Rattle.tables.proofs.Refusals.{setup_refused}
use Rattle.tables.proofs.SetupSound.{setup_sound}
use Rattle.tables.proofs.OverRuns.{call_sound}

module _ (E : Edition) (c : Call) (w : Words) {v : Words} {a : Answer} where
  -- the other three parts follow from the first
  pub promise : (a, v) ≡ answer_words E c w → Promise E c w v a
  promise e = record {
    exact = e;
    ledger = λ l s.
        let kept = call_sound E w l s c in
        (answer_is ∙ kept.0, subst (λ (u : Words). Sound E u (answer by_class w.size w.count c l).1) (sym words_are) kept.1);
    kept = λ k q. words_are ∙ refused_kept E c w k (sym answer_is ∙ q);
    inside = λ asked o r q g.
        grant_inside E w asked o r (ap (λ (x : Call). (answer_words E x w).0) (sym q) ∙ (sym answer_is ∙ g));
  }
    where
      answer_is : a ≡ (answer_words E c w).0
      answer_is = ap (λ (x : Answer × Words). x.0) e

      words_are : v ≡ (answer_words E c w).1
      words_are = ap (λ (x : Answer × Words). x.1) e

-- any two outcomes that a promise allows coincide
pub one_outcome : (E : Edition) (c : Call) (w : Words) {u v : Words} {a b : Answer} → Promise E c w u a → Promise E c w v b
    → ◌≡◌ {A = Answer × Words} (a, u) (b, v)
one_outcome E c w p q = p.exact ∙ sym q.exact

module _ (E : Edition) {c : Call} {w u v : Words} {a b : Answer} (p : Promise E c w u a) (q : Promise E c w v b) where
  pub answers_same : a ≡ b
  answers_same = ap (λ (x : Answer × Words). x.0) (one_outcome E c w p q)

  pub words_same : u ≡ v
  words_same = ap (λ (x : Answer × Words). x.1) (one_outcome E c w p q)

-- ---- setup
pub setup_promise : (E : Edition) (size count : ℕ) (lent : Lent) {v : Words} {a : Answer}
    → size < 2 ^ 32 → (a, v) ≡ setup_words E size count lent → SetupPromise E size count lent v a
setup_promise E size count lent {v} {a} small e = record {
  exact = e;
  size_fits = small;
  ledger = λ q.
      subst (λ (u : Words). Sound E u (setup by_class size count)) (sym words_are) (setup_sound E size count lent (sym answer_is ∙ q));
  kept = λ k q. words_are ∙ setup_refused E size count lent k (sym answer_is ∙ q);
}
  where
    answer_is : a ≡ (setup_words E size count lent).0
    answer_is = ap (λ (x : Answer × Words). x.0) e

    words_are : v ≡ (setup_words E size count lent).1
    words_are = ap (λ (x : Answer × Words). x.1) e

pub one_setup : (E : Edition) (size count : ℕ) (lent : Lent) {u v : Words} {a b : Answer}
    → SetupPromise E size count lent u a → SetupPromise E size count lent v b → ◌≡◌ {A = Answer × Words} (a, u) (b, v)
one_setup E size count lent p q = p.exact ∙ sym q.exact

-- ---- from both sides
pub promise_means : (E : Edition) → PromiseMeans E
promise_means E = record {
  outcome = λ p. (ap (λ (x : Answer × Words). x.0) p.exact, ap (λ (x : Answer × Words). x.1) p.exact);
  every_call = λ c w. promise E c w refl;
  setup_outcome = λ p. (ap (λ (x : Answer × Words). x.0) p.exact, ap (λ (x : Answer × Words). x.1) p.exact, p.size_fits);
  every_setup = λ size count lent small. setup_promise E size count lent small refl;
}
