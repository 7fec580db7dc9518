-- Document 01's classes are an engine: the laws. Assumes nothing.
use mathlib.Core.Path.{◌≡◌, refl, sym, ap}
use Prim.Native.Nat.{ℕ, ◌+◌, ◌-◌, ◌^◌, ◌≤◌, ◌<◌}
use native.Mathlib.Omega.{arith}
use mathlib.Core.Logic.{◌↔◌, ◌≢◌}
use mathlib.Core.Option.{none, some}
use mathlib.Core.List.{List, [], ◌∷◌}
use Rattle.basics.specs.Sum.{is, tally}
use Rattle.basics.proofs.Clash.{clash}
use Rattle.basics.proofs.Decided.{Same, same, differ, same?, below, beyond, below?}
use Rattle.basics.proofs.Sums.{tally_reverse_aux, held_first}
use Rattle.small_float.specs.Class.{down, up, classes_in_use, rounded_up}
use Rattle.small_float.proofs.Rounding.{fits, reaches, down_most, to_class, to_none, rounded?}
use Rattle.ledger.specs.Ledger.{Region, live, free, len, lowest, lowest_from, highest, stands, Stacked, Stacks, by_class}
use Rattle.ledger.specs.Spans.{At, first, later, FreeIn}
use Rattle.ledger.specs.Laws.{Laws, Chosen}
use Rattle.ledger.proofs.Places.{at_weighs}
use Rattle.ledger.proofs.Stacks.{tally_on_top, tally_without, without_on_top, on_top_without}
use Rattle.ledger.proofs.Searches.{Lowest, all_empty, lowest_is, lowest?, Highest, highest_is, highest?}
use Rattle.ledger.proofs.KeptStacks.{stands_own}

-- ---- a record that a stack holds is that of a free region of its class
pub record Standing (c r : ℕ) (line : List Region) : Type 0 where
  pub n : ℕ
  pub o : ℕ
  pub there : At (free n r) o line
  pub class_is : down n ≡ c

pub standing : (c r : ℕ) (line : List Region) → 1 ≤ tally (stands c r) line → Standing c r line
standing c r [] h = absurd (omega arith)
standing c r (live n q ∷ rest) h =
    let t = standing c r rest (omega arith) in
    record { n = t.n; o = n + t.o; there = later {y = live n q} t.there; class_is = t.class_is }
standing c r (free n q ∷ rest) h = go (same? c (down n)) (same? q r) (standing c r rest)
  where
    behind : Standing c r rest → Standing c r (free n q ∷ rest)
    behind t = record { n = t.n; o = n + t.o; there = later {y = free n q} t.there; class_is = t.class_is }

    go : Same c (down n) → Same q r → (1 ≤ tally (stands c r) rest → Standing c r rest) → Standing c r (free n q ∷ rest)
    go (same p e) (same k f) further = record { n = n; o = 0; there = rw k first; class_is = sym p }
    go (same p e) (differ k f) further = behind (further (omega (arith, rw (e, f) at h)))
    go (differ p e) k further = behind (further (omega (arith, rw e at h)))

pub held : (line : List Region) (stacks : Stacks) → Stacked line stacks → (c r : ℕ) (under : List ℕ) → stacks c ≡ r ∷ under → Standing c r line
held line stacks w c r under e = standing c r line (omega (arith, w.exactly c r, ap (tally (is r)) e, held_first r under))

-- ---- a free region's class is one of those in use, and its stack is not empty
in_use : (line : List Region) (n : ℕ) → tally len line < 2 ^ 32 → FreeIn n line → down n < classes_in_use
in_use line n small f = omega (arith, down_most n (omega (arith, at_weighs f.2 len)))

not_empty : (line : List Region) (stacks : Stacks) (n : ℕ) → Stacked line stacks → FreeIn n line → stacks (down n) ≢ []
not_empty line stacks n w f e =
    let r = f.1 in
    omega (arith, at_weighs f.2 (stands (down n) r), stands_own n r, w.exactly (down n) r, ap (tally (is r)) e)

-- ---- the choice
-- a size's number is that of its class, and where it has none no class from the number on is looked at: so the choice is a search from the number
pub from_number : (s : ℕ) (stacks : Stacks) → lowest_from stacks (rounded_up s) ≡ lowest stacks (classes_in_use - up s) (up s)
unfolding lowest_from
from_number s stacks = elim (rounded? s) [
  | to_class low in_use e ↦ rw e
  | to_none high past e ↦ let nothing : classes_in_use - up s ≡ 0 = omega arith in rw (e, nothing)
]

chosen : (s r : ℕ) (line : List Region) (stacks : Stacks) → Stacked line stacks
    → lowest_from stacks (rounded_up s) ≡ some r → Chosen by_class s r line stacks
chosen s r line stacks w e = go (lowest? stacks (classes_in_use - up s) (up s))
  where
    of_top : (d : ℕ) (under : List ℕ) → up s ≤ d → stacks d ≡ r ∷ under → Standing d r line → Chosen by_class s r line stacks
    of_top d under h top t =
        let class_is = t.class_is in
        record {
          n = t.n;
          offset = t.o;
          stands_free = t.there;
          reaches = omega arith;
          goes_back = on_top_without (down t.n) r stacks under (rw class_is top);
        }

    go : Lowest stacks (classes_in_use - up s) (up s) → Chosen by_class s r line stacks
    go (all_empty m empty) = clash (cc (from_number s stacks))
    go (lowest_is d q under m h k top empty) =
        let number : q ≡ r = cc (from_number s stacks) in
        let top_is : stacks d ≡ r ∷ under = rw number at top in
        of_top d under h top_is (held line stacks w d r under top_is)

none_long : (s : ℕ) (line : List Region) (stacks : Stacks) → Stacked line stacks → tally len line < 2 ^ 32
    → lowest_from stacks (rounded_up s) ≡ none → (n : ℕ) → FreeIn n line → down n < up s
none_long s line stacks w small e n f = go (lowest? stacks (classes_in_use - up s) (up s))
  where
    go : Lowest stacks (classes_in_use - up s) (up s) → down n < up s
    go (all_empty m empty) = elim (below? (down n) (up s)) [
      | below h k ↦ h
      | beyond h k ↦ absurd (not_empty line stacks n w f (empty (down n) h (omega (arith, in_use line n small f))))
    ]
    go (lowest_is d q under m a k top empty) = clash (cc (from_number s stacks))

told : (s : ℕ) (line : List Region) (stacks : Stacks) → Stacked line stacks → tally len line < 2 ^ 32 → ((n : ℕ) × FreeIn n line)
    → (s ≤ highest stacks classes_in_use) ↔ ((n : ℕ) × FreeIn n line × (up s ≤ down n))
told s line stacks w small some-free = (λ h. long h (highest? stacks classes_in_use), λ x. within x (highest? stacks classes_in_use))
  where
    long : s ≤ highest stacks classes_in_use → Highest stacks classes_in_use → (n : ℕ) × FreeIn n line × (up s ≤ down n)
    long h (all_empty m empty) =
        absurd (not_empty line stacks some-free.0 w some-free.1 (empty (down some-free.0) (in_use line some-free.0 small some-free.1)))
    long h (highest_is d r under m k top empty) =
        let t = held line stacks w d r under top in
        let class_is = t.class_is in
        let reached : up s ≤ d = (reaches s d).1 (omega arith) in
        (t.n, (t.o, r, t.there), omega arith)

    within : (n : ℕ) × FreeIn n line × (up s ≤ down n) → Highest stacks classes_in_use → s ≤ highest stacks classes_in_use
    within x (all_empty m empty) =
        absurd (not_empty line stacks x.0 w x.1 (empty (down x.0) (in_use line x.0 small x.1)))
    within x (highest_is d r under m k top empty) = rw m (elim (below? d (down x.0)) [
      | below h e ↦ absurd (not_empty line stacks x.0 w x.1 (empty (down x.0) h (in_use line x.0 small x.1)))
      | beyond h e ↦ (reaches s d).0 (omega (arith, x.2))
    ])

pub class_laws : Laws by_class
class_laws = record {
  fits = λ s n h. fits s n h;
  kept_empty = record { exactly = λ c r. refl };
  kept_enter = λ before after n r x w. record {
    exactly = λ c i. omega (
      arith,
      tally_on_top (down n) r x c i,
      tally_reverse_aux (stands c i) before (free n r ∷ after),
      tally_reverse_aux (stands c i) before after,
      w.exactly c i,
    );
  };
  kept_leave = λ before after n r x w. record {
    exactly = λ c i. omega (
      arith,
      tally_without (down n) r x c i
          (omega (arith, w.exactly (down n) r, tally_reverse_aux (stands (down n) r) before (free n r ∷ after), stands_own n r)),
      tally_reverse_aux (stands c i) before (free n r ∷ after),
      tally_reverse_aux (stands c i) before after,
      w.exactly c i,
    );
  };
  kept_live = λ before after n r x. (
    λ w. record {
      exactly = λ c i. omega (
        arith,
        w.exactly c i,
        tally_reverse_aux (stands c i) before (live n r ∷ after),
        tally_reverse_aux (stands c i) before after,
      );
    },
    λ w. record {
      exactly = λ c i. omega (
        arith,
        w.exactly c i,
        tally_reverse_aux (stands c i) before (live n r ∷ after),
        tally_reverse_aux (stands c i) before after,
      );
    },
  );
  leaves_again = λ n r x. without_on_top (down n) r x;
  serves = chosen;
  fails = none_long;
  tells = told;
}
