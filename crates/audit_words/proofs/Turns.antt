-- One turn of each loop of the code, as the model has it: with i of k turns made, what the model gives is what it gives after one more; and
-- what it gives where the loop stops. Assumes nothing.
use mathlib.Core.Path.{◌≡◌, ap}
use mathlib.Core.Bool.{true, false}
use mathlib.Core.List.{List}
use Prim.Native.Nat.{ℕ, suc, ◌+◌, ◌*◌, ◌-◌, ◌^◌, ◌≤◌, ◌<◌}
use native.Mathlib.Numerals.{add-one}
use native.Mathlib.Omega.{arith}
use lib.ListN.{get_or, set}
use lib.Pow.{pow_mono}
use lib.Dec.{eqb}
use borrow.Author.Tests.{eq-eqb, ne_eqb}
use Rattle.basics.proofs.Decided.{same, differ, same?}
use Rattle.tables.specs.Layout.{used, word}
use Rattle.tables.specs.Words.{Edition}
use Rattle.tables.specs.Linked.{mask}
use Rattle.tables.proofs.Masks.{Bit, mask_same, mask_below}
use Rattle.audit_words.specs.declared.Walk.{Walk}
use Rattle.audit_words.specs.declared.Along.{Along}
use Rattle.audit_words.specs.Scratch.{cleared}
use Rattle.audit_words.specs.Spares.{good_spare, mark_from}
use Rattle.audit_words.specs.Chain.{starts_chain, first_record, good_region, advanced, walk_from}
use Rattle.audit_words.specs.Bounded.{Bounded}
use Rattle.audit_words.specs.Lists.{good_member, next_member, list_from, at_head, ended, lists_from}
use Rattle.audit_words.specs.Bits.{head_bit, leaf_of, leaves_from}
use Rattle.audit_words.proofs.ChainMet.{is_good}

-- ---- turns left
one_less : (k i : ℕ) → i < k → k - i ≡ suc (k - (i + 1))
one_less k i l = omega arith

spent : (k i : ℕ) → k ≤ i → k - i ≡ 0
spent k i l = omega arith

-- ---- clearing
pub clear_turn : (i : ℕ) (scratch : List ℕ) → cleared (i + 1) scratch ≡ set (cleared i scratch) i 0
unfolding cleared
clear_turn i scratch = rw add-one

-- ---- the pile
module _ (nodes pile : List ℕ) (count spares i : ℕ) (marks : List ℕ) where
  pub mark_turn : i < spares → good_spare nodes marks count (get_or pile i 0) ≡ true
      → mark_from (spares - i) nodes pile count i marks
      ≡ mark_from (spares - (i + 1)) nodes pile count (i + 1) (set marks (get_or pile i 0) 1)
  unfolding mark_from
  mark_turn l g = rw (one_less spares i l, g)

  pub mark_stop : i < spares → good_spare nodes marks count (get_or pile i 0) ≡ false
      → mark_from (spares - i) nodes pile count i marks ≡ record { fine = false; marks = marks }
  unfolding mark_from
  mark_stop l g = rw (one_less spares i l, g)

  pub mark_end : spares ≤ i → mark_from (spares - i) nodes pile count i marks ≡ record { fine = true; marks = marks }
  unfolding mark_from
  mark_end l = rw (spent spares i l)

-- ---- the first record
module _ (E : Edition) (nodes marks : List ℕ) (count i : ℕ) where
  pub first_turn : i < count → starts_chain E nodes marks i ≡ false
      → first_record E (count - i) nodes marks i ≡ first_record E (count - (i + 1)) nodes marks (i + 1)
  unfolding first_record
  first_turn l g = rw (one_less count i l, g)

  pub first_stop : i < count → starts_chain E nodes marks i ≡ true → first_record E (count - i) nodes marks i ≡ i
  unfolding first_record
  first_stop l g = rw (one_less count i l, g)

  pub first_end : count ≤ i → first_record E (count - i) nodes marks i ≡ E.none
  unfolding first_record
  first_end l = rw (spent count i l)

-- ---- the chain
module _ (nodes marks : List ℕ) (count size : ℕ) (w : Walk) where
  pub walk_turn : w.records < count → good_region nodes marks count size w ≡ true
      → walk_from (count - w.records) nodes marks count size w
      ≡ walk_from (count - (advanced nodes w).records) nodes marks count size (advanced nodes w)
  unfolding walk_from advanced
  walk_turn l g = rw (one_less count w.records l, g)

  pub walk_stop : w.records < count → good_region nodes marks count size w ≡ false
      → walk_from (count - w.records) nodes marks count size w ≡ w
  unfolding walk_from
  walk_stop l g = rw (one_less count w.records l, g)

  pub walk_end : count ≤ w.records → walk_from (count - w.records) nodes marks count size w ≡ w
  unfolding walk_from
  walk_end l = rw (spent count w.records l)

  pub walk_bounded : w.records < count → good_region nodes marks count size w ≡ true → Bounded count size w
      → Bounded count size (advanced nodes w)
  unfolding advanced
  walk_bounded l g b = record {
    records_low = omega arith;
    frees_low = elim (same? (word nodes used w.here) 0) [
      | same e t ↦ rw t (omega (arith, b.frees_low))
      | differ d t ↦ rw t (omega (arith, b.frees_low))
    ];
    total_low = elim (same? (word nodes used w.here) 0) [
      | same e t ↦ rw t (omega (arith, b.total_low))
      | differ d t ↦ rw t (omega (arith, b.total_low))
    ];
    offset_low = (is_good nodes marks count size w g).inside;
  }

-- ---- one list
module _ (nodes marks : List ℕ) (count c frees : ℕ) (m : Along) where
  pub list_turn : m.listed < frees → good_member nodes marks count c m ≡ true
      → list_from (frees - m.listed) nodes marks count c m
      ≡ list_from (frees - (next_member nodes m).listed) nodes marks count c (next_member nodes m)
  unfolding list_from next_member
  list_turn l g = rw (one_less frees m.listed l, g)

  pub list_stop : m.listed < frees → good_member nodes marks count c m ≡ false → list_from (frees - m.listed) nodes marks count c m ≡ m
  unfolding list_from
  list_stop l g = rw (one_less frees m.listed l, g)

  pub list_end : frees ≤ m.listed → list_from (frees - m.listed) nodes marks count c m ≡ m
  unfolding list_from
  list_end l = rw (spent frees m.listed l)

-- ---- all lists
module _ (E : Edition) (nodes marks heads : List ℕ) (count frees c listed : ℕ) where
  pub lists_turn : (e : Along) → c < 256 → e ≡ list_from (frees - listed) nodes marks count c (at_head E heads c listed) → e.here ≡ E.none
      → lists_from E (256 - c) nodes marks heads count frees c listed ≡ lists_from E (256 - (c + 1)) nodes marks heads count frees (c + 1) e.listed
  unfolding lists_from ended
  lists_turn e l g h = rw (one_less 256 c l, ← g, eq-eqb _ _ h)

  pub lists_stop : (e : Along) → c < 256 → e ≡ list_from (frees - listed) nodes marks count c (at_head E heads c listed)
      → (e.here ≡ E.none → ⊥) → lists_from E (256 - c) nodes marks heads count frees c listed ≡ false
  unfolding lists_from ended
  lists_stop e l g h = rw (one_less 256 c l, ← g, ne_eqb _ _ h)

  pub lists_end : 256 ≤ c → lists_from E (256 - c) nodes marks heads count frees c listed ≡ eqb listed frees
  unfolding lists_from
  lists_end l = rw (spent 256 c l)

-- ---- the bits
module _ (E : Edition) (heads leaves : List ℕ) (t : ℕ) where
  pub leaf_turn : t < 32 → get_or leaves t 0 ≡ leaf_of E heads t
      → leaves_from E (32 - t) heads leaves t ≡ leaves_from E (32 - (t + 1)) heads leaves (t + 1)
  unfolding leaves_from
  leaf_turn l e = rw (one_less 32 t l, eq-eqb _ _ e)

  pub leaf_stop : t < 32 → (get_or leaves t 0 ≡ leaf_of E heads t → ⊥) → leaves_from E (32 - t) heads leaves t ≡ false
  unfolding leaves_from
  leaf_stop l e = rw (one_less 32 t l, ne_eqb _ _ e)

  pub leaf_end : 32 ≤ t → leaves_from E (32 - t) heads leaves t ≡ true
  unfolding leaves_from
  leaf_end l = rw (spent 32 t l)

pub head_bit_bit : (E : Edition) (head : ℕ) → head_bit E head ≤ 1
unfolding head_bit
head_bit_bit E head = elim (same? head E.none) [ same e t ↦ rw t (omega arith) | differ d t ↦ rw t (omega arith) ]

-- the bits of eight lists
abbrev pub leaf_bit : Edition → List ℕ → ℕ → ℕ → ℕ
leaf_bit E heads t i = head_bit E (get_or heads (8 * t + i) 0)

-- a mask of k bits is made from its highest bit down: i of them are left
module _ (k : ℕ) (bit : ℕ → ℕ) where
  abbrev pub Above : ℕ → ℕ
  Above i = mask (k - i) (λ j. bit (i + j))

  pub mask_none_yet : Above k ≡ 0
  unfolding mask
  mask_none_yet = let z : k - k ≡ 0 = omega arith in rw z

  pub mask_turn : (i : ℕ) → 0 < i → i ≤ k → Above (i - 1) ≡ Above i * 2 + bit (i - 1)
  unfolding mask
  mask_turn i l m =
      let one_more : k - (i - 1) ≡ suc (k - i) = omega arith in
      let here : i - 1 + 0 ≡ i - 1 = omega arith in
      let rest = mask_same (k - i) (λ j. bit (i - 1 + suc j)) (λ j. bit (i + j)) (λ j _. ap bit (let s : i - 1 + suc j ≡ i + j = omega arith in s)) in
      rw one_more (omega (arith, rest, ap bit here))

  pub mask_all : Above 0 ≡ mask k bit
  mask_all =
      let whole : k - 0 ≡ k = omega arith in
      rw whole (mask_same k (λ j. bit (0 + j)) bit (λ j _. ap bit (let s : 0 + j ≡ j = omega arith in s)))

  -- while a bit is left, the mask has room for it
  pub mask_room : k ≤ 32 → Bit bit → (i : ℕ) → 0 < i → Above i < 2 ^ 31
  mask_room h b i l =
      let powers = pow_mono {i = k - i} {j = 31} (omega arith) in
      omega (arith, mask_below (k - i) (λ j. bit (i + j)) (λ j. b (i + j)), powers)
