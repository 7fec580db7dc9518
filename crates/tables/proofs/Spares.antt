-- The spare records in the words of the pile: the one on top, one that goes onto it, one that leaves it. Assumes nothing.
use mathlib.Core.Path.{◌≡◌, refl, sym, subst, ap₂, ◌∙◌}
use mathlib.Core.List.{List, ◌∷◌}
use Prim.Native.Nat.{ℕ, zero, suc, ◌+◌, ◌-◌, ◌≤◌, ◌<◌}
use native.Mathlib.Omega.{arith}
use lib.ListN.{length, get_or, set, length-set}
use lib.Seq.{get_or-set_same, get_or-set_other}
use Rattle.tables.specs.Layout.{pile_needed}
use Rattle.tables.specs.Linked.{stack_of}

pub record SparesStand (n off : ℕ) (pile : List ℕ) (spare : List ℕ) : Type 0 where
  pub pile_room : pile_needed n ≤ length pile
  pub piled : stack_of pile (length spare) ≡ spare
  pub spares : off + 1 ≡ length spare

-- a write above the words that are read
stack_of_set : (pile : List ℕ) (k j v : ℕ) → k ≤ j → stack_of (set pile j v) k ≡ stack_of pile k
stack_of_set pile zero j v h = refl
stack_of_set pile (suc k) j v h =
    ap₂ {C = List ℕ} ◌∷◌ (get_or-set_other pile j k v 0 (omega arith)) (stack_of_set pile k j v (omega arith))

module _ (n off : ℕ) (pile spare : List ℕ) where
  pub pushed : (r : ℕ) → length spare < n → SparesStand n off pile spare → SparesStand n (off + 1) (set pile (off + 1) r) (r ∷ spare)
  pushed r l P = record {
    pile_room = rw length-set P.pile_room;
    piled = subst (λ (i : ℕ). stack_of (set pile i r) (suc (length spare)) ≡ r ∷ spare) (sym P.spares) (ap₂ {C = List ℕ} ◌∷◌
        (get_or-set_same pile (length spare) r 0 (omega (arith, P.pile_room)))
        (stack_of_set pile (length spare) (length spare) r (omega arith) ∙ P.piled));
    spares = omega (arith, P.spares);
  }

  pub popped : (m : ℕ) → 1 ≤ length spare → SparesStand n off pile (m ∷ spare) → SparesStand n (off - 1) pile spare
  popped m h P = record { pile_room = P.pile_room; piled = cc P.piled; spares = omega (arith, P.spares) }

  -- the word on top of the pile is the next record
  pub next_spare : (m : ℕ) → SparesStand n off pile (m ∷ spare) → get_or pile off 0 ≡ m
  next_spare m P =
      let at_top : off ≡ length spare = omega (arith, P.spares) in
      rw at_top (cc P.piled)
