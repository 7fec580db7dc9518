-- The plain ledger of document 01, in its words. Regions, pile, cutting and merging are the same whichever free region a take is given; how the
-- free regions are listed, and which of them is given, is said by an engine. Document 01's engine is `by_class`, its class stacks: a reader who wants
-- document 01 alone reads E as `by_class`, and the index as the stacks. Assumes nothing.
use Rattle.std.specs.Prelude.{◌≡◌, ℕ, zero, suc, ◌+◌, ◌-◌, Bool, ◌&&◌, length, get_or, drop, eqb, ltb}
use Rattle.std.proofs.Math.Bool.{cond}
use Rattle.std.proofs.Math.Option.{Option, none, some}
use mathlib.Core.List.{List, [], ◌∷◌, ◌++◌, map, reverse_aux}
use Rattle.basics.specs.Sum.{one, is, tally}
use Rattle.small_float.specs.Class.{down, up, value, classes_in_use, rounded_up}

-- ---- the state
-- A region: its length and its record number, live or free. Its offset is the sum of the lengths before it.
pub data Region : Type 0 where
  live free : (len rec : ℕ) → Region

abbrev pub len : Region → ℕ
len (live n r) = n
len (free n r) = n

abbrev pub rec : Region → ℕ
rec (live n r) = r
rec (free n r) = r

-- "a line of regions in address order .., a pile of spare record numbers, and for each class a stack of its free regions by down class"
-- The pile is a list of record numbers, the next to be taken first. The index is what the engine keeps of the free regions: in document 01 the
-- stacks.
pub record Ledger (Index : Type 0) : Type 0 where
  pub line : List Region
  pub index : Index
  pub pile : List ℕ

-- ---- answers
-- a refusal carries document 01's number
pub data Answer : Type 0 where
  granted : (offset number : ℕ) → Answer
  done : Answer
  length_is : ℕ → Answer
  reported : (total largest : ℕ) → Answer
  classes : List (ℕ × ℕ) → Answer
  refused : ℕ → Answer

-- ---- an engine: how free regions are listed, and which of them a take is given
pub record Engine : Type 1 where
  -- what it keeps of the free regions, and what it keeps of none
  pub Index : Type 0
  pub empty : Index
  -- the free region of length n and record r is listed; it leaves again
  pub enter : (n r : ℕ) → Index → Index
  pub leave : (n r : ℕ) → Index → Index
  -- the record of the free region that a take of s is given
  pub choose : (s : ℕ) → List Region → Index → Option ℕ
  -- the second number of the report, and the full report
  pub largest : List Region → Index → ℕ
  pub full : Index → List (ℕ × ℕ)
  -- what the claims say of it: a free region of length n serves a take of s exactly if need s ≤ rank n,
  -- and the index lists exactly the free regions of the line
  pub need : (s : ℕ) → ℕ
  pub rank : (n : ℕ) → ℕ
  pub Kept : List Region → Index → Type 0

-- ---- document 01's engine: "for each class a stack of its free regions by down class"
-- a stack is a list of record numbers, the one put there last first
abbrev pub Stacks : Type 0
Stacks = ℕ → List ℕ

-- r goes on top of the stack of class c
unfoldable pub on_top : ℕ → ℕ → Stacks → Stacks
on_top c r stacks d = cond (eqb d c) (r ∷ stacks d) (stacks d)

-- r leaves the stack of class c
unfoldable pub remove : ℕ → List ℕ → List ℕ
remove r [] = []
remove r (q ∷ qs) = cond (eqb q r) qs (q ∷ remove r qs)

unfoldable pub without : ℕ → ℕ → Stacks → Stacks
unfolding remove
without c r stacks d = cond (eqb d c) (remove r (stacks d)) (stacks d)

-- of the n classes from c on, the top of the lowest stack that is not empty
unfoldable pub top_or : List ℕ → Option ℕ → Option ℕ
top_or [] otherwise = otherwise
top_or (r ∷ rs) otherwise = some r

unfoldable pub lowest : Stacks → ℕ → ℕ → Option ℕ
unfolding top_or
lowest stacks zero c = none
lowest stacks (suc n) c = let above = lowest stacks n (suc c) in top_or (stacks c) above

-- "of the lowest non-empty class at or above up(s), the region put there last", of the classes that a region can have; where a size has no class, none
unfoldable pub lowest_from : Stacks → Option ℕ → Option ℕ
unfolding lowest
lowest_from stacks none = none
lowest_from stacks (some c) = lowest stacks (classes_in_use - c) c

-- "the value of the highest non-empty class (0 if none)", of the classes below n
unfoldable pub value_or : List ℕ → ℕ → ℕ → ℕ
value_or [] c otherwise = otherwise
value_or (r ∷ rs) c otherwise = value c

unfoldable pub highest : Stacks → ℕ → ℕ
unfolding value_or
highest stacks zero = 0
highest stacks (suc n) = let lower = highest stacks n in value_or (stacks n) n lower

-- the n numbers from r on
unfoldable pub numbers_from : ℕ → ℕ → List ℕ
numbers_from r zero = []
numbers_from r (suc n) = r ∷ numbers_from (suc r) n

-- "`storage_report_full` gives for classes 0 to 255 the value and the number of free regions"
unfoldable pub full_at : Stacks → ℕ → ℕ × ℕ
full_at stacks c = (value c, length (stacks c))

unfoldable pub full_of : Stacks → List (ℕ × ℕ)
unfolding full_at numbers_from
full_of stacks = map (full_at stacks) (numbers_from 0 256)

-- each stack holds exactly the free regions of its class; said as counts, in which a region counts 1 if it is free, of class c, with record r
abbrev pub stands : ℕ → ℕ → Region → ℕ
stands c r (live n q) = 0
stands c r (free n q) = one (eqb c (down n) && eqb q r)

pub record Stacked (line : List Region) (stacks : Stacks) : Type 0 where
  pub exactly : (c r : ℕ) → tally (is r) (stacks c) ≡ tally (stands c r) line

abbrev pub by_class : Engine
by_class = record {
  Index = Stacks;
  empty = λ c. [];
  -- "goes on top of its class"
  enter = λ n r stacks. on_top (down n) r stacks;
  leave = λ n r stacks. without (down n) r stacks;
  choose = λ s line stacks. lowest_from stacks (rounded_up s);
  largest = λ line stacks. highest stacks classes_in_use;
  full = full_of;
  -- as numbers, for the claims over every engine, a number above every class in use where there is no class; ClassClaims says them by `rounded_up`
  need = up;
  rank = down;
  Kept = Stacked;
}

-- ---- a place in the line
-- what stands before a region, the nearest first, the region itself, and what stands after it;
-- the line is then `reverse_aux before (here ∷ after)`
pub record Spot : Type 0 where
  pub before : List Region
  pub here : Region
  pub after : List Region

-- the place of record r, looked for from the front
unfoldable pub find : ℕ → List Region → List Region → Option Spot
find r before [] = none
find r before (x ∷ after) =
    cond (eqb (rec x) r) (some record { before = before; here = x; after = after }) (find r (x ∷ before) after)

-- ---- setup and reset
module _ (E : Engine) where
  -- "the pile yields 0 first, then 1, and so on. One free region [0, size) takes record 0."
  unfoldable pub setup : ℕ → ℕ → Ledger E.Index
  unfolding numbers_from
  setup size count =
      record { line = free size 0 ∷ []; index = E.enter size 0 E.empty; pile = numbers_from 1 (count - 1) }

-- ---- take
-- "The last spare is never spent": a take needs more than one
abbrev pub spares : {I : Type 0} → Ledger I → Bool
spares l = ltb 1 (length l.pile)

module _ (E : Engine) where
  -- The free region of length n and record r, at its place, "becomes live with length exactly s and keeps its record. A remainder above 0 takes
  -- the next record of the pile, becomes a free region just after it and goes on top of its class."
  unfoldable pub cut : (s remainder : ℕ) → List Region → (n r : ℕ) → List Region → Ledger E.Index → Ledger E.Index
  cut s zero before n r after l = record {
    line = reverse_aux before (live s r ∷ after);
    index = E.leave n r l.index;
    pile = l.pile;
  }
  cut s (suc k) before n r after l =
      let next = get_or l.pile 0 0 in
      record {
        line = reverse_aux before (live s r ∷ free (suc k) next ∷ after);
        index = E.enter (suc k) next (E.leave n r l.index);
        pile = drop 1 l.pile;
      }

  -- "The offset and record number are the answer." (In a ledger in order a chosen record is that of a free region, so 6 is never given.)
  unfoldable pub grant : ℕ → Ledger E.Index → Option Spot → Answer × Ledger E.Index
  unfolding cut
  grant s l none = (refused 6, l)
  grant s l (some z) = elim z.here [
    | live n r ↦ (refused 6, l)
    | free n r ↦ (granted (tally len z.before) r, cut s (n - s) z.before n r z.after l)
  ]

  unfoldable pub grant_top : ℕ → Ledger E.Index → Option ℕ → Answer × Ledger E.Index
  unfolding grant find
  grant_top s l none = (refused 4, l)
  grant_top s l (some r) = grant s l (find r [] l.line)

  -- the region that the engine chooses, with document 01's "of the lowest non-empty class at or above up(s), the region put there last";
  -- too few spares are found out first
  unfoldable pub take : ℕ → Ledger E.Index → Answer × Ledger E.Index
  unfolding grant_top
  take s l = cond (spares l) (grant_top s l (E.choose s l.line l.index)) (refused 3, l)

-- ---- hand back
-- One side of a region that is handed back, read once: the length and the record of a free region next to it (0 and none if there is none), the
-- rest of that side, and the index without that region.
pub record Side (Index : Type 0) : Type 0 where
  pub added : ℕ
  pub owed : List ℕ
  pub rest : List Region
  pub index : Index

module _ (E : Engine) where
  -- of the regions on that side, the nearest first
  unfoldable pub beside : List Region → E.Index → Side E.Index
  beside [] index = record { added = 0; owed = []; rest = []; index = index }
  beside (live n r ∷ xs) index = record { added = 0; owed = []; rest = live n r ∷ xs; index = index }
  beside (free n r ∷ xs) index = record { added = n; owed = r ∷ []; rest = xs; index = E.leave n r index }

  -- "The region merges with a free one before and a free one after. Their records go onto the pile, the one before first. The merged region
  -- keeps the record number handed back and goes on top of its class."
  unfoldable pub merge : List Region → (n r : ℕ) → List Region → Ledger E.Index → Ledger E.Index
  unfolding beside
  merge before n r after l =
      let b = beside before l.index in
      let a = beside after b.index in
      let whole = b.added + n + a.added in
      record {
        line = reverse_aux b.rest (free whole r ∷ a.rest);
        index = E.enter whole r a.index;
        pile = a.owed ++ (b.owed ++ l.pile);
      }

  -- "refusal 8 is given exactly if the record is live but starts elsewhere; it comes after 5": the region starts where those before it end
  unfoldable pub give_back : ℕ → Ledger E.Index → Option Spot → Answer × Ledger E.Index
  unfolding merge
  give_back o l none = (refused 5, l)
  give_back o l (some z) = elim z.here [
    | live n r ↦ cond (eqb (tally len z.before) o) (done, merge z.before n r z.after l) (refused 8, l)
    | free n r ↦ (refused 5, l)
  ]

  -- "handing back and asking a length carry the offset too"
  unfoldable pub hand_back : (o r : ℕ) → Ledger E.Index → Answer × Ledger E.Index
  unfolding give_back find
  hand_back o r l = give_back o l (find r [] l.line)

-- ---- questions
unfoldable pub length_at : ℕ → Option Spot → Answer
length_at o none = refused 5
length_at o (some z) = elim z.here [ live n r ↦ cond (eqb (tally len z.before) o) (length_is n) (refused 8) | free n r ↦ refused 5 ]

unfoldable pub size_of : {I : Type 0} → (o r : ℕ) → Ledger I → Answer
unfolding length_at find
size_of o r l = length_at o (find r [] l.line)

abbrev pub free_len : Region → ℕ
free_len (live n r) = 0
free_len (free n r) = n

module _ (E : Engine) where
  -- "with one spare record `storage_report` gives 0 and 0. Otherwise it gives the sum of free lengths and", with document 01's engine, "the value of
  -- the highest non-empty class"
  unfoldable pub report : Ledger E.Index → ℕ × ℕ
  report l = cond (spares l) (tally free_len l.line, E.largest l.line l.index) (0, 0)

  abbrev pub full_report : Ledger E.Index → List (ℕ × ℕ)
  full_report l = E.full l.index
