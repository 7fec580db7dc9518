-- The two levels of bits follow the stacks: where no class is filled or emptied, where one is filled, where one is emptied. Assumes nothing.
use mathlib.Core.Bool.{cond}
use mathlib.Core.Path.{◌≡◌, ap, sym, ◌∙◌}
use mathlib.Core.Logic.{◌≢◌}
use mathlib.Core.List.{List}
use Prim.Native.Nat.{ℕ, ◌+◌, ◌*◌, ◌/◌, ◌%◌, ◌≤◌, ◌<◌}
use native.Mathlib.Omega.{arith}
use lib.Dec.{eqb}
use lib.ListN.{length, get_or, set, length-set}
use lib.Seq.{get_or-set_same, get_or-set_other}
use Rattle.basics.proofs.Decided.{Same, same, differ, same?}
use Rattle.tables.specs.Steps.{set_bit, clear_bit}
use Rattle.tables.specs.Linked.{mask, full, non_zero}
use Rattle.tables.proofs.Masks.{full_bit, non_zero_bit, non_zero_some, non_zero_none, non_zero_zero}
use Rattle.tables.proofs.Masks.{mask_same, mask_none, mask_some, mask_set, mask_cleared}

-- "a bit is set exactly where a list, or a leaf byte, is non-empty"
pub record Bits (leaves : List ℕ) (top : ℕ) (stacks : ℕ → List ℕ) : Type 0 where
  pub leaves_room : length leaves ≡ 32
  pub leaf_bits : (t : ℕ) → t < 32 → get_or leaves t 0 ≡ mask 8 (λ i. full (stacks (8 * t + i)))
  pub top_bits : top ≡ mask 32 (λ t. non_zero (get_or leaves t 0))

module _ (leaves : List ℕ) (top : ℕ) (stacks : ℕ → List ℕ) (B : Bits leaves top stacks) where
  -- a class under a clear top bit is empty; a class that holds something makes its leaf byte more than 0
  pub leaf_clear : (c : ℕ) → c < 256 → non_zero (get_or leaves (c / 8) 0) ≡ 0 → full (stacks c) ≡ 0
  leaf_clear c l e =
      let in_byte : 8 * (c / 8) + c % 8 ≡ c = omega arith in
      let byte = sym (B.leaf_bits (c / 8) (omega arith)) ∙ non_zero_none (get_or leaves (c / 8) 0) e in
      rw in_byte at (mask_none 8 (λ i. full (stacks (8 * (c / 8) + i))) byte (c % 8) (omega arith))

  leaf_some : (c : ℕ) → c < 256 → full (stacks c) ≡ 1 → non_zero (get_or leaves (c / 8) 0) ≡ 1
  leaf_some c l e =
      let in_byte : 8 * (c / 8) + c % 8 ≡ c = omega arith in
      non_zero_some (get_or leaves (c / 8) 0) (rw (B.leaf_bits (c / 8) (omega arith))
      (mask_some 8 (λ i. full (stacks (8 * (c / 8) + i))) (c % 8) (omega arith) (rw in_byte (omega arith))))

  -- ---- no class is filled or emptied
  pub bits_kept : (stacks' : ℕ → List ℕ) → ((d : ℕ) → full (stacks' d) ≡ full (stacks d)) → Bits leaves top stacks'
  bits_kept stacks' h = record {
    leaves_room = B.leaves_room;
    leaf_bits = λ t l. B.leaf_bits t l
        ∙ mask_same 8 (λ i. full (stacks (8 * t + i))) (λ i. full (stacks' (8 * t + i))) (λ i _. sym (h (8 * t + i)));
    top_bits = B.top_bits;
  }

  -- ---- class c is filled, or emptied, and no other
  module _ (stacks' : ℕ → List ℕ) (c : ℕ) (c-low : c < 256) (others : (d : ℕ) → d ≢ c → full (stacks' d) ≡ full (stacks d)) where
    in_byte : 8 * (c / 8) + c % 8 ≡ c
    in_byte = omega arith

    t_low : c / 8 < 32
    t_low = omega (arith, c-low)

    -- the leaf byte that holds its bit is given the value m
    module _ (m : ℕ) (m_is : m ≡ mask 8 (λ i. full (stacks' (8 * (c / 8) + i)))) where
      at_byte : get_or (set leaves (c / 8) m) (c / 8) 0 ≡ m
      at_byte = get_or-set_same leaves (c / 8) m 0 (omega (arith, B.leaves_room, t_low))

      at_other : (t : ℕ) → t ≢ c / 8 → get_or (set leaves (c / 8) m) t 0 ≡ get_or leaves t 0
      at_other t d = get_or-set_other leaves (c / 8) t m 0 d

      byte_bits : (t : ℕ) → t < 32 → get_or (set leaves (c / 8) m) t 0 ≡ mask 8 (λ i. full (stacks' (8 * t + i)))
      byte_bits t l = elim (same? t (c / 8)) [
        | same e q ↦ rw e (at_byte ∙ m_is)
        | differ d q ↦ at_other t d ∙ B.leaf_bits t l
            ∙ mask_same 8 (λ i. full (stacks (8 * t + i))) (λ i. full (stacks' (8 * t + i)))
            (λ i il. sym (others (8 * t + i) (λ s. d (omega arith))))
      ]

      -- with any top word that says which bytes are more than 0
      byte_set : (top' : ℕ) → top' ≡ mask 32 (λ t. non_zero (get_or (set leaves (c / 8) m) t 0)) → Bits (set leaves (c / 8) m) top' stacks'
      byte_set top' e = record { leaves_room = length-set leaves (c / 8) m ∙ B.leaves_room; leaf_bits = byte_bits; top_bits = e }

    -- the bits of the others stay
    leaf_others : (i : ℕ) → i ≢ c % 8 → full (stacks' (8 * (c / 8) + i)) ≡ full (stacks (8 * (c / 8) + i))
    leaf_others i d = others (8 * (c / 8) + i) (λ s. d (omega arith))

    pub bits_filled : full (stacks' c) ≡ 1
        → Bits (set leaves (c / 8) (set_bit (get_or leaves (c / 8) 0) (c % 8))) (set_bit top (c / 8)) stacks'
    bits_filled e = byte_set m m_is (set_bit top (c / 8))
        (ap (λ (x : ℕ). set_bit x (c / 8)) B.top_bits
        ∙ mask_set 32 (c / 8) (λ t. non_zero (get_or leaves t 0)) (λ t. non_zero (get_or (set leaves (c / 8) m) t 0)) t_low
        (λ t. non_zero_bit (get_or leaves t 0)) (ap non_zero (at_byte m m_is) ∙ non_zero_some m some)
        (λ t d. ap non_zero (at_other m m_is t d)))
      where
        m : ℕ
        m = set_bit (get_or leaves (c / 8) 0) (c % 8)

        m_is : m ≡ mask 8 (λ i. full (stacks' (8 * (c / 8) + i)))
        m_is =
            ap (λ (x : ℕ). set_bit x (c % 8)) (B.leaf_bits (c / 8) t_low)
            ∙ mask_set 8 (c % 8) (λ i. full (stacks (8 * (c / 8) + i))) (λ i. full (stacks' (8 * (c / 8) + i))) (omega arith)
            (λ i. full_bit (stacks (8 * (c / 8) + i))) (rw in_byte e) leaf_others

        some : 1 ≤ m
        some = rw m_is (mask_some 8 (λ i. full (stacks' (8 * (c / 8) + i))) (c % 8) (omega arith) (rw (in_byte, e) (omega arith)))

    -- the byte's bit in the top word is cleared where the byte falls to 0
    pub bits_emptied : full (stacks c) ≡ 1 → full (stacks' c) ≡ 0
        → Bits (set leaves (c / 8) (clear_bit 8 (get_or leaves (c / 8) 0) (c % 8)))
        (cond (eqb (clear_bit 8 (get_or leaves (c / 8) 0) (c % 8)) 0) (clear_bit 32 top (c / 8)) top) stacks'
    bits_emptied was e = byte_set m m_is (cond (eqb m 0) (clear_bit 32 top (c / 8)) top) (go (same? m 0))
      where
        m : ℕ
        m = clear_bit 8 (get_or leaves (c / 8) 0) (c % 8)

        m_is : m ≡ mask 8 (λ i. full (stacks' (8 * (c / 8) + i)))
        m_is =
            ap (λ (x : ℕ). clear_bit 8 x (c % 8)) (B.leaf_bits (c / 8) t_low)
            ∙ mask_cleared 8 (c % 8) (λ i. full (stacks (8 * (c / 8) + i))) (λ i. full (stacks' (8 * (c / 8) + i))) (omega arith)
            (λ i. full_bit (stacks (8 * (c / 8) + i))) (rw in_byte e) leaf_others

        old : ℕ → ℕ
        old t = non_zero (get_or leaves t 0)

        new : ℕ → ℕ
        new t = non_zero (get_or (set leaves (c / 8) m) t 0)

        kept : (t : ℕ) → t ≢ c / 8 → new t ≡ old t
        kept t d = ap non_zero (at_other m m_is t d)

        go : Same m 0 → cond (eqb m 0) (clear_bit 32 top (c / 8)) top ≡ mask 32 new
        go (same z q) = rw q
            (ap (λ (x : ℕ). clear_bit 32 x (c / 8)) B.top_bits
            ∙ mask_cleared 32 (c / 8) old new t_low (λ t. non_zero_bit (get_or leaves t 0))
            (ap non_zero (at_byte m m_is ∙ z) ∙ non_zero_zero) kept)
        go (differ z q) = rw q (B.top_bits ∙ mask_same 32 old new (λ t _. sym (elim (same? t (c / 8)) [
          | same s r ↦ rw s (ap non_zero (at_byte m m_is) ∙ non_zero_some m (omega arith) ∙ sym (leaf_some c c-low was))
          | differ d r ↦ kept t d
        ])))
