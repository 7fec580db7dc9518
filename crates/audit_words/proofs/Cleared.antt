-- The scratch: its words below the count are 0 once it is cleared, and the others stay; marks below the count are cleared away again.
-- Assumes nothing.
use mathlib.Core.Path.{◌≡◌, refl, sym, ◌∙◌}
use mathlib.Core.Bool.{Bool, true, false, cond}
use mathlib.Core.List.{List}
use Prim.Native.Nat.{ℕ, zero, suc, ◌+◌, ◌≤◌, ◌<◌}
use native.Mathlib.Omega.{arith}
use lib.ListN.{length, get_or, set, length-set}
use lib.Seq.{get_or-set_same, get_or-set_other, ext_get_or}
use Rattle.basics.proofs.Decided.{same, differ, same?, Below, below, beyond, below?}
use Rattle.audit_words.specs.Scratch.{cleared}
use Rattle.audit_words.specs.Spares.{good_spare, mark_from}
use Rattle.audit_words.proofs.Marks.{MarkedUpTo, good_low}

pub cleared_length : (k : ℕ) (scratch : List ℕ) → length (cleared k scratch) ≡ length scratch
unfolding cleared
cleared_length zero scratch = refl
cleared_length (suc k) scratch = length-set (cleared k scratch) k 0 ∙ cleared_length k scratch

pub cleared_low : (k : ℕ) (scratch : List ℕ) (i : ℕ) → k ≤ length scratch → i < k → get_or (cleared k scratch) i 0 ≡ 0
unfolding cleared
cleared_low zero scratch i l h = absurd (omega arith)
cleared_low (suc k) scratch i l h = elim (same? i k) [
  | same e t ↦ rw e (get_or-set_same (cleared k scratch) k 0 0 (omega (arith, cleared_length k scratch)))
  | differ d t ↦ get_or-set_other (cleared k scratch) k i 0 0 d ∙ cleared_low k scratch i (omega arith) (omega arith)
]

pub cleared_high : (k : ℕ) (scratch : List ℕ) (i : ℕ) → k ≤ i → get_or (cleared k scratch) i 0 ≡ get_or scratch i 0
unfolding cleared
cleared_high zero scratch i h = refl
cleared_high (suc k) scratch i h = get_or-set_other (cleared k scratch) k i 0 0 (omega arith) ∙ cleared_high k scratch i (omega arith)

-- two tables that agree from k on are cleared alike
cleared_alike : (k : ℕ) (a b : List ℕ) → length a ≡ length b → k ≤ length a → ((i : ℕ) → k ≤ i → get_or a i 0 ≡ get_or b i 0)
    → cleared k a ≡ cleared k b
cleared_alike k a b e l h =
    ext_get_or 0 (cleared k a) (cleared k b) (cleared_length k a ∙ e ∙ sym (cleared_length k b)) (λ i _. go i (below? i k))
  where
    go : (i : ℕ) → Below i k → get_or (cleared k a) i 0 ≡ get_or (cleared k b) i 0
    go i (below m t) = cleared_low k a i l m ∙ sym (cleared_low k b i (omega arith) m)
    go i (beyond m t) = cleared_high k a i m ∙ h i m ∙ sym (cleared_high k b i m)

pub cleared_twice : (k : ℕ) (scratch : List ℕ) → k ≤ length scratch → cleared k (cleared k scratch) ≡ cleared k scratch
cleared_twice k scratch l =
    cleared_alike k (cleared k scratch) scratch (cleared_length k scratch) (omega (arith, cleared_length k scratch)) (cleared_high k scratch)

-- the marks of the pile stand below the count
pub marks_cleared : (k : ℕ) (nodes pile : List ℕ) (count i : ℕ) (marks : List ℕ) → count ≤ length marks
    → (length (mark_from k nodes pile count i marks).marks ≡ length marks)
    × (cleared count (mark_from k nodes pile count i marks).marks ≡ cleared count marks)
unfolding mark_from
marks_cleared zero nodes pile count i marks l = (refl, refl)
marks_cleared (suc k) nodes pile count i marks l = go (good_spare nodes marks count q) refl
    (marks_cleared k nodes pile count (i + 1) (set marks q 1) (rw length-set l))
  where
    q : ℕ
    q = get_or pile i 0

    go : (t : Bool) → good_spare nodes marks count q ≡ t
        → (length (mark_from k nodes pile count (i + 1) (set marks q 1)).marks ≡ length (set marks q 1))
        × (cleared count (mark_from k nodes pile count (i + 1) (set marks q 1)).marks ≡ cleared count (set marks q 1))
        → (length (cond t (mark_from k nodes pile count (i + 1) (set marks q 1)) record { fine = false; marks = marks }).marks ≡ length marks)
        × (cleared count (cond t (mark_from k nodes pile count (i + 1) (set marks q 1)) record { fine = false; marks = marks }).marks
        ≡ cleared count marks)
    go true g further = (
      further.0 ∙ length-set marks q 1,
      further.1 ∙ cleared_alike count (set marks q 1) marks (length-set marks q 1) (rw length-set l)
          (λ j h. get_or-set_other marks q j 1 0 (omega (arith, good_low nodes pile count marks q g))),
    )
    go false g further = (refl, refl)

-- a scratch that is clear marks nothing yet
pub none_marked : (nodes pile : List ℕ) (count : ℕ) (scratch : List ℕ) → count ≤ length scratch
    → MarkedUpTo nodes pile count 0 (cleared count scratch)
none_marked nodes pile count scratch l = record {
  long = omega (arith, cleared_length count scratch);
  counts = λ r h. cleared_low count scratch r l h;
  in_order = record { low = λ r h. absurd (omega arith); dead = λ r h. absurd (omega arith); distinct = λ r. omega arith };
}
