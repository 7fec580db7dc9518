-- The bits: those made from the heads are those of the lists, so the tests say exactly that the bits are right. Assumes nothing.
use mathlib.Core.Path.{◌≡◌, refl, ap, sym, ◌∙◌}
use mathlib.Core.Bool.{true, cond}
use mathlib.Core.List.{List, [], ◌∷◌}
use Prim.Native.Nat.{ℕ, zero, suc, ◌+◌, ◌*◌, ◌≤◌, ◌<◌}
use native.Mathlib.Omega.{arith}
use lib.Dec.{eqb}
use lib.ListN.{length, get_or}
use borrow.Author.Tests.{eqb-true, eq-eqb, ne_eqb}
use Rattle.basics.proofs.Decided.{same, differ, same?}
use Rattle.basics.proofs.Counts.{In}
use Rattle.basics.proofs.Sums.{held_first}
use Rattle.tables.specs.Words.{Edition}
use Rattle.tables.specs.Linked.{first, mask, full}
use Rattle.tables.proofs.Masks.{mask_same}
use Rattle.tables.proofs.Bits.{Bits}
use Rattle.audit_words.specs.Bits.{head_bit, leaf_of, top_of, leaves_from, bits_agree}
use Rattle.audit_words.proofs.Tests.{both}

-- each leaf byte from t on
leaves_met : (E : Edition) (heads leaves : List ℕ) (k t : ℕ) → leaves_from E k heads leaves t ≡ true
    → (i : ℕ) → t ≤ i → i < t + k → get_or leaves i 0 ≡ leaf_of E heads i
unfolding leaves_from
leaves_met E heads leaves zero t e i l m = absurd (omega arith)
leaves_met E heads leaves (suc k) t e i l m =
    let now = both (eqb (get_or leaves t 0) (leaf_of E heads t)) _ e in
    elim (same? i t) [
      | same s q ↦ rw s (eqb-true _ _ now.0)
      | differ d q ↦ leaves_met E heads leaves k (t + 1) now.1 i (omega arith) (omega arith)
    ]

leaves_agree : (E : Edition) (heads leaves : List ℕ) (k t : ℕ) → ((i : ℕ) → t ≤ i → i < t + k → get_or leaves i 0 ≡ leaf_of E heads i)
    → leaves_from E k heads leaves t ≡ true
unfolding leaves_from
leaves_agree E heads leaves zero t h = refl
leaves_agree E heads leaves (suc k) t h =
    rw (eq-eqb _ _ (h t (omega arith) (omega arith)))
    (leaves_agree E heads leaves k (t + 1) (λ i l m. h i (omega arith) (omega arith)))

module _ (E : Edition) (heads leaves : List ℕ) (top : ℕ) (stacks : ℕ → List ℕ)
    (some : (c q : ℕ) → c < 256 → In q (stacks c) → q ≡ E.none → ⊥)
    (tops : (c : ℕ) → c < 256 → get_or heads c 0 ≡ first (stacks c) E.none) where
  -- a head is an absent link exactly where its list is empty
  head_full : (c : ℕ) → c < 256 → head_bit E (get_or heads c 0) ≡ full (stacks c)
  unfolding head_bit
  head_full c l = go (stacks c) refl
    where
      go : (xs : List ℕ) → stacks c ≡ xs → cond (eqb (get_or heads c 0) E.none) 0 1 ≡ full (stacks c)
      go [] e = rw (eq-eqb (get_or heads c 0) E.none (tops c l ∙ ap (λ (ys : List ℕ). first ys E.none) e)) (sym (ap full e))
      go (x ∷ xs) e =
          let head : get_or heads c 0 ≡ x = tops c l ∙ ap (λ (ys : List ℕ). first ys E.none) e in
          rw (ne_eqb (get_or heads c 0) E.none (λ s. some c x l (rw e (held_first x xs)) (sym head ∙ s))) (sym (ap full e))

  leaf_full : (t : ℕ) → t < 32 → leaf_of E heads t ≡ mask 8 (λ i. full (stacks (8 * t + i)))
  unfolding leaf_of
  leaf_full t l = mask_same 8 _ _ (λ i m. head_full (8 * t + i) (omega arith))

  pub bits_met : length leaves ≡ 32 → bits_agree E heads leaves top ≡ true → Bits leaves top stacks
  unfolding bits_agree top_of
  bits_met room e =
      let t = both (leaves_from E 32 heads leaves 0) _ e in
      record {
        leaves_room = room;
        leaf_bits = λ i l. leaves_met E heads leaves 32 0 t.0 i (omega arith) (omega arith) ∙ leaf_full i l;
        top_bits = eqb-true _ _ t.1;
      }

  pub bits_agree_lem : Bits leaves top stacks → bits_agree E heads leaves top ≡ true
  unfolding bits_agree top_of
  bits_agree_lem b =
      rw (leaves_agree E heads leaves 32 0 (λ i l m. b.leaf_bits i (omega arith) ∙ sym (leaf_full i (omega arith))))
      (eq-eqb _ _ b.top_bits)
