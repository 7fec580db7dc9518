-- The full report on sound words answers as the ledger: each class list is walked to its end. Assumes nothing.
use mathlib.Core.Path.{◌≡◌, refl, ap, ◌∙◌}
use mathlib.Core.List.{List, [], ◌∷◌}
use Prim.Native.Nat.{ℕ, zero, suc, ◌+◌, ◌≤◌, ◌<◌}
use native.Mathlib.Omega.{arith}
use native.Mathlib.Nat.{zero-add, add-zero}
use lib.ListN.{length, get_or, set, length-set, replicate, length-replicate}
use lib.Seq.{get_or-set_same, get_or-set_other}
use borrow.Author.Tests.{lt-ltb, le-ltb}
use Rattle.basics.proofs.Decided.{same, differ, same?}
use Rattle.basics.proofs.Sums.{held_first}
use Rattle.basics.proofs.Counts.{In, in_tail}
use Rattle.basics.proofs.Pigeons.{pigeons}
use Rattle.small_float.specs.Class.{value}
use Rattle.ledger.specs.Ledger.{Ledger, classes, full_of, full_at, Stacks}
use Rattle.ledger.proofs.Numbers.{map_numbers}
use Rattle.tables.specs.Words.{Words, Edition, bounds}
use Rattle.tables.specs.Questions.{steps, list_length, counts, noted, count_from, full_answer}
use Rattle.tables.specs.Linked.{first}
use Rattle.tables.specs.Sound.{Sound}
use Rattle.tables.proofs.Shelf.{Bin, in_below, in_distinct}
use Rattle.tables.proofs.SoundOf.{count_none, shelf_of}

module _ (E : Edition) (w : Words) (l : Ledger Stacks) (S : Sound E w l) where
  -- the length of a list, walked
  walked : (xs : List ℕ) (fuel p n : ℕ) → length xs ≤ fuel → ((q : ℕ) → In q xs → q < w.count) → Bin w.nodes p xs E.none
      → list_length fuel w.nodes w.count (first xs E.none) n ≡ steps (n + length xs)
  unfolding list_length
  walked [] zero p n room h k = rw (le-ltb E.none w.count (count_none E w l S), add-zero n)
  walked [] (suc fuel) p n room h k = rw (le-ltb E.none w.count (count_none E w l S), add-zero n)
  walked (x ∷ xs) zero p n room h k = absurd (omega arith)
  walked (x ∷ xs) (suc fuel) p n room h k =
      let one_more : n + 1 + length xs ≡ n + suc (length xs) = omega arith in
      rw (lt-ltb x w.count (h x (held_first x xs)), k.1)
      (walked xs fuel x (n + 1) (omega arith) (λ q m. h q (in_tail q x xs m)) k.2 ∙ ap steps one_more)

  list_length_lem : (c : ℕ) → c < 256 → list_length w.count w.nodes w.count (get_or w.bin_indices c 0) 0 ≡ steps (length (l.index c))
  list_length_lem c h =
      let below-count = in_below (bounds E w) w l.index l.pile (shelf_of E w l S) c in
      let few = pigeons w.count (l.index c) below-count (in_distinct (bounds E w) w l.index l.pile (shelf_of E w l S) c) in
      ap (λ (a : ℕ). list_length w.count w.nodes w.count a 0) (S.lists.tops c h)
      ∙ walked (l.index c) w.count E.none 0 few below-count (S.lists.lists c)
      ∙ ap steps (zero-add (length (l.index c)))

  -- the lengths of the k stacks from c on, written over so_far
  lengths : ℕ → ℕ → List ℕ → List ℕ
  lengths zero c so_far = so_far
  lengths (suc k) c so_far = lengths k (suc c) (set so_far c (length (l.index c)))

  counted : (k c : ℕ) (so_far : List ℕ) → c + k ≡ 256 → count_from k w c so_far ≡ counts (lengths k c so_far)
  unfolding count_from noted lengths
  counted zero c so_far e = refl
  counted (suc k) c so_far e = rw (list_length_lem c (omega arith)) (counted k (suc c) (set so_far c (length (l.index c))) (omega arith))

  before_kept : (k c : ℕ) (so_far : List ℕ) (d : ℕ) → d < c → get_or (lengths k c so_far) d 0 ≡ get_or so_far d 0
  unfolding lengths
  before_kept zero c so_far d h = refl
  before_kept (suc k) c so_far d h =
      before_kept k (suc c) (set so_far c (length (l.index c))) d (omega arith)
      ∙ get_or-set_other so_far c d (length (l.index c)) 0 (omega arith)

  length_at : (k c : ℕ) (so_far : List ℕ) (d : ℕ) → length so_far ≡ c + k → c ≤ d → d < c + k
      → get_or (lengths k c so_far) d 0 ≡ length (l.index d)
  unfolding lengths
  length_at zero c so_far d e g h = absurd (omega arith)
  length_at (suc k) c so_far d e g h = elim (same? d c) [
    | same q _ ↦ before_kept k (suc c) (set so_far c (length (l.index c))) d (omega arith)
        ∙ rw q (get_or-set_same so_far c (length (l.index c)) 0 (omega arith))
    | differ q _ ↦ length_at k (suc c) (set so_far c (length (l.index c))) d
        (length-set so_far c (length (l.index c)) ∙ e ∙ omega arith) (omega arith) (omega arith)
  ]

  pub full_is : full_answer (count_from 256 w 0 (replicate 256 0)) ≡ classes (full_of l.index)
  full_is =
      ap full_answer (counted 256 0 (replicate 256 0) refl)
      ∙ unfold full_answer full_of in
      ap classes (map_numbers (λ c. (value c, get_or (lengths 256 0 (replicate 256 0)) c 0)) (full_at l.index) 0 256 row)
    where
      row : (c : ℕ) → 0 ≤ c → c < 0 + 256 → (value c, get_or (lengths 256 0 (replicate 256 0)) c 0) ≡ full_at l.index c
      row c low h = unfold full_at in λ i. (value c, length_at 256 0 (replicate 256 0) c (length-replicate {A = ℕ} 256 0) (omega arith) h i)
