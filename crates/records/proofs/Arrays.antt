-- An array of five and the scalars in it say the same. Assumes nothing.
use mathlib.Core.Path.{◌≡◌, refl}
use mathlib.Core.List.{List, [], ◌∷◌}
use Prim.Native.Nat.{ℕ}
use native.Mathlib.Omega.{arith}
use lib.ListN.{length, set}
use Rattle.records.specs.declared.totals.Totals.{Totals}
use Rattle.records.specs.InWords.{in_array, of_array, put_back, ArrayFacts}

-- what holds of every array of five, written out, holds of every list as long
of_five : (P : List ℕ → Type 0) → ((p q r s t : ℕ) → P (p ∷ q ∷ r ∷ s ∷ t ∷ [])) → (a : List ℕ) → length a ≡ 5 → P a
of_five P each [] e = absurd (omega arith)
of_five P each (p ∷ []) e = absurd (omega arith)
of_five P each (p ∷ q ∷ []) e = absurd (omega arith)
of_five P each (p ∷ q ∷ r ∷ []) e = absurd (omega arith)
of_five P each (p ∷ q ∷ r ∷ s ∷ []) e = absurd (omega arith)
of_five P each (p ∷ q ∷ r ∷ s ∷ t ∷ []) e = each p q r s t
of_five P each (p ∷ q ∷ r ∷ s ∷ t ∷ u ∷ xs) e = absurd (omega arith)

pub array_facts : ArrayFacts
array_facts = record {
  of_in = λ t. refl;
  in_of = of_five (λ a. in_array (of_array a) ≡ a) (λ p q r s t. refl);
}

-- three stores put the scalars back
pub stored : (t : Totals) (a : List ℕ) → length a ≡ 5
    → set (set (set a 2 t.free_storage) 3 t.free_offset) 4 t.used_bins_top ≡ put_back t a
stored t =
    of_five
    (λ a. set (set (set a 2 t.free_storage) 3 t.free_offset) 4 t.used_bins_top ≡ put_back t a)
    (λ p q r s u. refl)
