-- The shelf: class lists, pile and bits as they stand in the words. The regions and their chain are not part of it. Assumes nothing.
use mathlib.Core.Path.{◌≡◌, sym, ◌∙◌}
use mathlib.Core.Logic.{◌≢◌}
use mathlib.Core.List.{List}
use Prim.Native.Nat.{ℕ, ◌+◌, ◌≤◌, ◌<◌}
use native.Mathlib.Omega.{arith}
use lib.Dec.{ltb}
use lib.ListN.{length, get_or}
use Rattle.basics.specs.Sum.{one, is, tally}
use Rattle.basics.proofs.Sums.{one_most}
use Rattle.basics.proofs.Counts.{In, Distinct, one_below}
use Rattle.small_float.specs.Class.{down}
use Rattle.tables.specs.Layout.{data_size, bin_prev, bin_next, word, nodes_needed}
use Rattle.tables.specs.Words.{Words, Bounds}
use Rattle.tables.specs.Linked.{first, Linked}
use Rattle.tables.proofs.Bits.{Bits}
use Rattle.tables.proofs.Spares.{SparesStand}

-- the records of a class, linked in `nodes`
abbrev pub Bin : List ℕ → (p : ℕ) → List ℕ → (y : ℕ) → Type 0
Bin nodes p xs y = Linked (word nodes bin_next) (word nodes bin_prev) p xs y

-- no number stands twice in a stack, nor in a stack and on the pile, and all are records
abbrev pub Held : (n : ℕ) → (ℕ → List ℕ) → List ℕ → Type 0
Held n stacks spare = (c r : ℕ) → tally (is r) (stacks c) + tally (is r) spare ≤ one (ltb r n)

pub record Listed (none : ℕ) (nodes heads : List ℕ) (stacks : ℕ → List ℕ) : Type 0 where
  pub heads_room : length heads ≡ 256
  pub class_is : (c r : ℕ) → In r (stacks c) → down (word nodes data_size r) ≡ c
  pub class_low : (c r : ℕ) → In r (stacks c) → c < 256
  pub lists : (c : ℕ) → Bin nodes none (stacks c) none
  pub tops : (c : ℕ) → c < 256 → get_or heads c 0 ≡ first (stacks c) none

pub record Shelf (K : Bounds) (w : Words) (stacks : ℕ → List ℕ) (spare : List ℕ) : Type 0 where
  pub small : K.n ≤ K.none
  pub nodes_room : nodes_needed K.n ≤ length w.nodes
  pub held : Held K.n stacks spare
  pub in_lists : Listed K.none w.nodes w.bin_indices stacks
  pub on_pile : SparesStand K.n w.free_offset w.pile spare
  pub in_bits : Bits w.used_bins w.used_bins_top stacks

-- ---- what a shelf says of the records on it
module _ (K : Bounds) (w : Words) (stacks : ℕ → List ℕ) (spare : List ℕ) (H : Shelf K w stacks spare) where
  pub in_below : (c r : ℕ) → In r (stacks c) → r < K.n
  in_below c r m = one_below r K.n (omega (arith, H.held c r))

  pub in_some : (c r : ℕ) → In r (stacks c) → r ≢ K.none
  in_some c r m = omega (arith, in_below c r m, H.small)

  pub in_distinct : (c : ℕ) → Distinct (stacks c)
  in_distinct c r = omega (arith, H.held c r, one_most (ltb r K.n))

  pub in_one_class : (c d r : ℕ) → In r (stacks c) → In r (stacks d) → c ≡ d
  in_one_class c d r m k = sym (H.in_lists.class_is c r m) ∙ H.in_lists.class_is d r k
