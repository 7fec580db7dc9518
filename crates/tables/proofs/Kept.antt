-- Of any words, sound or not: a refused call keeps every one of them, and a granted span lies inside the store. Assumes nothing.
use mathlib.Core.Path.{◌≡◌, refl, sym}
use Prim.Native.Nat.{ℕ, suc, ◌+◌, ◌≤◌}
use native.Mathlib.Omega.{arith}
use Rattle.ledger.specs.Ledger.{Answer, granted, done, refused}
use Rattle.ledger.specs.Calls.{Request, Question, Call, Take, HandBack, Reset, Ask}
use Rattle.tables.specs.Words.{Words, Edition}
use Rattle.tables.specs.Gate.{gate_of}
use Rattle.tables.specs.Take.{TakePlan, whole, split, plan_take, do_take}
use Rattle.tables.specs.HandBack.{BackPlan, merge, plan_back, do_back}
use Rattle.tables.specs.Questions.{told_by}
use Rattle.tables.specs.Calls.{behind, answer_words}
use Rattle.tables.specs.Guards.{TakeGuards}
use Rattle.tables.proofs.Guards.{take_guards}
use Rattle.tables.proofs.PlanEnds.{gated_ends}

granted_not_refused : (o r k : ℕ) → granted o r ≡ refused k → ⊥
granted_not_refused o r k e = let z : ◌≡◌ {A = ℕ} 0 1 = cc in omega arith

done_not_refused : (k : ℕ) → done ≡ refused k → ⊥
done_not_refused k e = let z : ◌≡◌ {A = ℕ} 0 1 = cc in omega arith

-- ---- refused
module _ (E : Edition) (w : Words) (k : ℕ) where
  take_kept : (s : ℕ) (p : TakePlan) → (do_take E w s p).0 ≡ refused k → (do_take E w s p).1 ≡ w
  unfolding do_take
  take_kept s (TakePlan.stop j) e = refl
  take_kept s (whole c r o) e = absurd (granted_not_refused o r k e)
  take_kept s (split c r o rest m) e = absurd (granted_not_refused o r k e)

  back_kept : (r : ℕ) (p : BackPlan) → (do_back E w r p).0 ≡ refused k → (do_back E w r p).1 ≡ w
  unfolding do_back
  back_kept r (BackPlan.stop j) e = refl
  back_kept r (merge p x p_free x_free m) e = absurd (done_not_refused k e)

behind_kept : (E : Edition) (c : Call) (w : Words) (k : ℕ) → (behind E c w).0 ≡ refused k → (behind E c w).1 ≡ w
unfolding behind
behind_kept E (Take asked) w k e = take_kept E w k asked.size (plan_take w asked.size) e
behind_kept E (HandBack span) w k e = back_kept E w k span.number (plan_back w span) e
behind_kept E Reset w k e = absurd (done_not_refused k e)
behind_kept E (Ask q) w k e = refl

pub refused_kept : (E : Edition) (c : Call) (w : Words) (k : ℕ) → (answer_words E c w).0 ≡ refused k → (answer_words E c w).1 ≡ w
unfolding answer_words
refused_kept E c w k =
    gated_ends (λ (x : Answer × Words). x.0 ≡ refused k → x.1 ≡ w) (gate_of E w) w (behind E c w) (λ j e. refl) (λ z. behind_kept E c w k)

-- a question changes no word, whatever it answers
pub question_kept : (E : Edition) (q : Question) (w : Words) → (answer_words E (Ask q) w).1 ≡ w
unfolding answer_words behind
question_kept E q w = gated_ends (λ (x : Answer × Words). x.1 ≡ w) (gate_of E w) w (told_by w q, w) (λ k. refl) (λ z. refl)

-- ---- granted
plan_inside : (E : Edition) (w : Words) (s o r : ℕ) (p : TakePlan) → TakeGuards w s p → (do_take E w s p).0 ≡ granted o r → o + s ≤ w.size
unfolding do_take
plan_inside E w s o r (TakePlan.stop k) g e = absurd (granted_not_refused o r k (sym e))
plan_inside E w s o r (whole c q a) g e = let at : a ≡ o = cc in omega (arith, g.inside)
plan_inside E w s o r (split c q a rest m) g e = let at : a ≡ o = cc in omega (arith, g.0.inside)

pub grant_inside : (E : Edition) (w : Words) (asked : Request) (o r : ℕ) → (answer_words E (Take asked) w).0 ≡ granted o r
    → o + asked.size ≤ w.size
unfolding answer_words behind
grant_inside E w asked o r =
    gated_ends (λ (x : Answer × Words). x.0 ≡ granted o r → o + s ≤ w.size) (gate_of E w) w (do_take E w s (plan_take w s))
    (λ k e. absurd (granted_not_refused o r (suc k) (sym e)))
    (λ z. plan_inside E w s o r (plan_take w s) (take_guards w s))
  where
    s : ℕ
    s = asked.size
