-- The number and the figures of what a call on a ledger in order answers. Assumes nothing.
use mathlib.Core.Path.{◌≡◌, refl, sym, ap}
use Prim.Native.Nat.{ℕ}
use mathlib.Core.Logic.{◌↔◌, ◌≢◌}
use lib.ListN.{length, replicate, length-replicate}
use Rattle.ledger.specs.Ledger.{Engine, Ledger, Stacks, by_class, Answer, granted, done, length_is, reported, classes, refused}
use Rattle.ledger.specs.Laws.{Laws}
use Rattle.ledger.specs.Calls.{Call, answer}
use Rattle.ledger.specs.Figures.{refusal_of, figure_count, figures_of}
use Rattle.ledger.specs.WellFormed.{WellFormed}
use Rattle.ledger.proofs.Outcomes.{CallCase, refuses, cuts, merges, resets, asks, call_case, refusal_numbers}
use Rattle.ledger.proofs.Questions.{told_figures}
use Rattle.ledger.proofs.Refusals.{no_other}
use Rattle.ledger.proofs.ByClass.{class_laws}

-- ---- of any answer
named : (a : Answer) (k : ℕ) → refusal_of a ≡ k → k ≢ 0 → a ≡ refused k
named (granted o r) k e h = absurd (h (sym e))
named done k e h = absurd (h (sym e))
named (length_is n) k e h = absurd (h (sym e))
named (reported n m) k e h = absurd (h (sym e))
named (classes rows) k e h = absurd (h (sym e))
named (refused n) k e h = ap refused e

zeros : (c : Call) (a : Answer) → refusal_of a ≢ 0 → figures_of c a ≡ replicate (figure_count c) 0
zeros c (granted o r) h = absurd (h refl)
zeros c done h = absurd (h refl)
zeros c (length_is n) h = absurd (h refl)
zeros c (reported n m) h = absurd (h refl)
zeros c (classes rows) h = absurd (h refl)
zeros c (refused k) h = refl

-- ---- of a call on a ledger in order
module _ (E : Engine) (laws : Laws E) (size count : ℕ) where
  pub number_tells : (c : Call) (k : ℕ) (l : Ledger E.Index) → WellFormed E size count l
      → ((answer E size count c l).0 ≡ refused k) ↔ ((refusal_of (answer E size count c l).0 ≡ k) × (k ≢ 0))
  number_tells c k l w = (
    λ e. (ap (λ a. refusal_of a) e, (refusal_numbers (no_other E laws size count c k l w e)).0),
    λ x. named (answer E size count c l).0 k x.0 x.1,
  )

  pub figures_of_0 : (c : Call) (l : Ledger E.Index) → refusal_of (answer E size count c l).0 ≢ 0
      → figures_of c (answer E size count c l).0 ≡ replicate (figure_count c) 0
  figures_of_0 c l h = zeros c (answer E size count c l).0 h

module _ (size count : ℕ) where
  pub figures_all : (c : Call) (l : Ledger Stacks) → WellFormed by_class size count l
      → length (figures_of c (answer by_class size count c l).0) ≡ figure_count c
  unfolding answer
  figures_all c l w = go (call_case by_class class_laws size count w c)
    where
      go : {c : Call} → CallCase by_class size count l c → length (figures_of c (answer by_class size count c l).0) ≡ figure_count c
      go (refuses {c = c} k h e) = rw (e, length-replicate {A = ℕ} (figure_count c) 0)
      go (cuts t e) = rw e
      go (merges n before after b p e) = rw e
      go resets = refl
      go (asks {q = q}) = told_figures size count q l w
