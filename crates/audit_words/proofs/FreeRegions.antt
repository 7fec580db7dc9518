-- The free regions of a line, class by class: they are as many as the line's free regions; so lists of free regions that have as many
-- members in all are exactly the free regions, each in its class. Assumes nothing.
use mathlib.Core.Path.{◌≡◌, refl, ap, sym, ◌∙◌}
use mathlib.Core.List.{List, [], ◌∷◌}
use Prim.Native.Nat.{ℕ, ◌+◌, ◌^◌, ◌≤◌, ◌<◌}
use native.Mathlib.Omega.{arith}
use lib.ListN.{length}
use Rattle.basics.specs.Sum.{is, tally}
use Rattle.basics.proofs.Sums.{tally_le}
use Rattle.basics.proofs.Counts.{In, Match, hit, miss, match?}
use Rattle.basics.proofs.Pigeons.{sum_below, sum_zero, sum_plus, sum_same, sum_equal, sum_once, AllBelow, Within, within_shorter, within_whole}
use Rattle.small_float.specs.Class.{down}
use Rattle.small_float.proofs.Rounding.{down_most}
use Rattle.ledger.specs.Ledger.{Region, live, free, len, rec, stands}
use Rattle.ledger.specs.WellFormed.{has}
use Rattle.ledger.specs.Claims.{free_of_class}
use Rattle.ledger.proofs.FullReport.{records_of, records_stand, records_many}
use Rattle.ledger.proofs.KeptStacks.{stands_own, stands_le}
use Rattle.tables.specs.Layout.{data_size, used, word}
use Rattle.tables.specs.Linked.{recs, Reads}
use Rattle.tables.proofs.Lines.{recs_count}
use Rattle.audit_words.proofs.ChainMet.{free_one}

is_flip : (a b : ℕ) → is a b ≡ is b a
is_flip a b = elim (match? a b) [
  | hit e o ↦ rw e refl
  | miss d o ↦ elim (match? b a) [ hit e p ↦ absurd (d (sym e)) | miss e p ↦ o ∙ sym p ]
]

-- ---- the free regions, counted by class
of_classes : (x : Region) → len x < 2 ^ 32 → sum_below 256 (λ c. free_of_class c x) ≡ free_one x
of_classes (live n r) h = sum_zero 256
of_classes (free n r) h =
    sum_same 256 (λ c. is (down n) c) (λ c. is c (down n)) (λ c _. is_flip (down n) c)
    ∙ sum_once 256 (down n) (omega (arith, down_most n h))

pub classes_add_up : (line : List Region) → tally len line < 2 ^ 32 → sum_below 256 (λ c. tally (free_of_class c) line) ≡ tally free_one line
classes_add_up [] h = sum_zero 256
classes_add_up (x ∷ line) h = omega (
  arith,
  sum_plus 256 (λ c. free_of_class c x) (λ c. tally (free_of_class c) line),
  of_classes x (omega arith),
  classes_add_up line (omega arith),
)

-- ---- a record of the line whose words say that it is free and of class c stands there for class c
pub standing_free : (nodes : List ℕ) (o : ℕ) (line : List Region) → Reads nodes o line → (c q : ℕ) → In q (recs line)
    → word nodes used q ≡ 0 → down (word nodes data_size q) ≡ c → 1 ≤ tally (stands c q) line
standing_free nodes o [] h c q m dead class_is = absurd (omega arith)
standing_free nodes o (x ∷ line) h c q m dead class_is =
    go x h.1 h.2 (match? q (rec x)) (λ m. standing_free nodes (o + len x) line h.3 c q m dead class_is) m
  where
    go : (x : Region) → word nodes data_size (rec x) ≡ len x → word nodes used (rec x) ≡ Rattle.tables.specs.Linked.mark x → Match q (rec x)
        → (In q (recs line) → 1 ≤ tally (stands c q) line) → In q (rec x ∷ recs line) → 1 ≤ stands c q x + tally (stands c q) line
    go x l u (miss d e) further m = omega (arith, further (omega arith))
    go (live n r) l u (hit s e) further m = absurd (omega (arith, u, dead, ap (word nodes used) s))
    go (free n r) l u (hit s e) further m =
        let class_of : down n ≡ c = ap down (sym (ap (word nodes data_size) s ∙ l)) ∙ class_is in
        omega (arith, stands_own n r, ap (λ (d : ℕ). stands d r (free n r)) class_of, ap (λ (i : ℕ). stands c i (free n r)) s)

-- ---- lists that hold free regions of their class alone, and as many in all
module _ (count : ℕ) (line : List Region) (stacks : ℕ → List ℕ)
    (fits : tally len line < 2 ^ 32)
    (low : (q : ℕ) → In q (recs line) → q < count)
    (inside : (c : ℕ) → c < 256 → (q : ℕ) → tally (is q) (stacks c) ≤ tally (stands c q) line)
    (all : sum_below 256 (λ c. length (stacks c)) ≡ tally free_one line) where
  records_low : (c : ℕ) → AllBelow count (records_of c line)
  records_low c q m = low q (omega (arith, records_stand c q line, recs_count q line, tally_le (stands c q) (has q) (stands_le c q) line))

  in_records : (c : ℕ) → c < 256 → Within (stacks c) (records_of c line)
  in_records c l q = omega (arith, inside c l q, records_stand c q line)

  as_many : (c : ℕ) → c < 256 → length (stacks c) ≡ tally (free_of_class c) line
  as_many = sum_equal 256 (λ c. length (stacks c)) (λ c. tally (free_of_class c) line)
      (λ c l. omega (arith, records_many c line, within_shorter count (stacks c) (records_of c line) (records_low c) (in_records c l)))
      (all ∙ sym (classes_add_up line fits))

  pub exactly_free : (c : ℕ) → c < 256 → (q : ℕ) → tally (is q) (stacks c) ≡ tally (stands c q) line
  exactly_free c l q =
      within_whole count (stacks c) (records_of c line) (records_low c) (in_records c l) (as_many c l ∙ sym (records_many c line)) q
      ∙ records_stand c q line

-- a class from 256 on has no free region
pub none_high : (line : List Region) → tally len line < 2 ^ 32 → (c q : ℕ) → 256 ≤ c → tally (stands c q) line ≡ 0
none_high [] h c q l = refl
none_high (live n r ∷ line) h c q l = omega (arith, none_high line (omega arith) c q l)
none_high (free n r ∷ line) h c q l =
    let other : c ≡ down n → ⊥ = λ e. omega (arith, down_most n (omega arith)) in
    omega (arith, none_high line (omega arith) c q l, no_stand other)
  where
    no_stand : (c ≡ down n → ⊥) → stands c q (free n r) ≡ 0
    no_stand other = rw (borrow.Author.Tests.ne_eqb c (down n) other)
