-- What the steps on the two levels of bits leave, and what a search found. Assumes nothing.
use Rattle.std.specs.Prelude.{cond, ◌≡◌, ℕ, ◌/◌, ◌%◌, ◌<◌, List, eqb, get_or, set, Result, Ok, Err}
use Rattle.tables.specs.Steps.{set_bit, clear_bit}
use Rattle.tables.specs.Search.{Found, class_is, no_class, bad_bits}
use Rattle.small_float.specs.declared.Class.{Class}
use Rattle.bitmap.specs.declared.search.NotFound.{NotFound}
use Rattle.bitmap.specs.declared.search.NotFound.TheVariants.{NoClass, BadBits}

-- ---- the bits, as insert_at and unlink_at of tables/specs have them: what top word and leaf bytes are after a step
pub record Bits (top' : ℕ) (leaves' : List ℕ) (top : ℕ) (leaves : List ℕ) : Type 0 where
  pub top_is : top ≡ top'
  pub leaves_are : leaves ≡ leaves'

-- told from the other side: what is left is one top word and one row of leaf bytes, these; proofs/Told.antt makes it
pub record BitsMean : Type 0 where
  pub bits_are : (top' top : ℕ) (leaves' leaves : List ℕ) → Bits top' leaves' top leaves → (top ≡ top') × (leaves ≡ leaves')
  pub may_be_left : (top : ℕ) (leaves : List ℕ) → Bits top leaves top leaves

-- class c holds something
abbrev pub Marked : (top c : ℕ) → (leaves : List ℕ) → ℕ → List ℕ → Type 0
Marked top c leaves = Bits (set_bit top (c / 8)) (set leaves (c / 8) (set_bit (get_or leaves (c / 8) 0) (c % 8)))

-- class c holds nothing any more
abbrev pub Unmarked : (top c : ℕ) → (leaves : List ℕ) → ℕ → List ℕ → Type 0
Unmarked top c leaves =
    Bits
    (cond (eqb (clear_bit 8 (get_or leaves (c / 8) 0) (c % 8)) 0) (clear_bit 32 top (c / 8)) top)
    (set leaves (c / 8) (clear_bit 8 (get_or leaves (c / 8) 0) (c % 8)))

-- ---- what a search found, as the code has it: a class, which is one of the 256, or why there is none
abbrev pub Tells : Found → Result Class NotFound → Type 0
Tells (class_is c) (Ok d) = (d.0 ≡ c) × (d.0 < 256)
Tells (class_is c) (Err why) = ⊥
Tells no_class (Ok d) = ⊥
Tells no_class (Err NoClass) = Unit {0}
Tells no_class (Err BadBits) = ⊥
Tells bad_bits (Ok d) = ⊥
Tells bad_bits (Err NoClass) = ⊥
Tells bad_bits (Err BadBits) = Unit {0}

-- told from the other side: a search is told in one way, and no two searches that found different things are told alike; proofs/Told.antt makes it
pub record TellsMeans : Type 0 where
  pub one_way : (f : Found) (s t : Result Class NotFound) → Tells f s → Tells f t → s ≡ t
  pub none_shared : (f g : Found) (s : Result Class NotFound) → Tells f s → Tells g s → f ≡ g
