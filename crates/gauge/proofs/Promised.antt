-- A reading by the fill that the words tell keeps its promise. Assumes nothing.
use mathlib.Core.Path.{◌≡◌, refl, sym, ap, ◌∙◌}
use Prim.Native.Nat.{ℕ}
use Rattle.basics.proofs.Clash.{clash}
use Rattle.ledger.specs.Ledger.{Ledger, Stacks, Answer, granted, done, length_is, reported, classes, refused}
use Rattle.ledger.specs.Fill.{live_units, fill_of}
use Rattle.ledger.specs.Calls.{Fill, Ask, told, answer}
use Rattle.tables.specs.Words.{Words, Edition}
use Rattle.tables.specs.Calls.{answer_words}
use Rattle.tables.specs.Sound.{Sound}
use Rattle.tables.specs.Promise.{Promise}
use Rattle.tables.proofs.Promise.{promise}
use Rattle.gauge.specs.Rule.{Watch}
use Rattle.gauge.specs.Answers.{Told, not_read, read_after}
use Rattle.gauge.specs.Promise.{ReadPromise}

-- where no reading is told, the gauge is as it came
pub as_it_came : (g : Watch) (a : Answer) (k : ℕ) → (read_after g a).0 ≡ not_read k → (read_after g a).1 ≡ g
unfolding read_after
as_it_came g (reported units fill) k e = clash (cc)
as_it_came g (refused j) k e = refl
as_it_came g (granted o r) k e = refl
as_it_came g done k e = refl
as_it_came g (length_is n) k e = refl
as_it_came g (classes rows) k e = refl

module _ (E : Edition) (w : Words) (g : Watch) where
  pub by_ledger : (l : Ledger Stacks) → Sound E w l → (answer_words E (Ask Fill) w).0 ≡ reported (live_units l) (fill_of (live_units l) w.size)
  by_ledger l S = unfold answer told in ((promise E (Ask Fill) w refl).ledger l S).0

  pub read_promise : (t : Told) (h : Watch) → (t, h) ≡ read_after g (answer_words E (Ask Fill) w).0 → ReadPromise E w g t h
  read_promise t h e = record {
    exact = e;
    ledger = λ l S. e ∙ ap (read_after g) (by_ledger l S);
    kept = λ k n. ap (λ (x : Told × Watch). x.1) e ∙ as_it_came g (answer_words E (Ask Fill) w).0 k (sym (ap (λ (x : Told × Watch). x.0) e) ∙ n);
  }

  -- what the code does: the question is asked, and its answer read
  pub asked_and_read : {a : Answer} {t : Told} {h : Watch} → Promise E (Ask Fill) w w a → (t, h) ≡ read_after g a → ReadPromise E w g t h
  asked_and_read {t = t} {h = h} p e = read_promise t h (e ∙ ap (λ (x : Answer × Words). read_after g x.0) p.exact)
