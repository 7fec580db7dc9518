-- How a line of regions stands in the words of its records: taken apart, put together, and kept by steps that miss it. Assumes nothing.
use mathlib.Core.Path.{◌≡◌, refl, ap, ◌∙◌, subst}
use mathlib.Core.List.{List, [], ◌∷◌, ◌++◌, reverse, reverse_aux-eq}
use Prim.Native.Nat.{ℕ, ◌+◌}
use native.Mathlib.Omega.{arith}
use Rattle.basics.specs.Sum.{is, tally}
use Rattle.basics.proofs.Sums.{held_first}
use Rattle.basics.proofs.Counts.{In, in_tail}
use Rattle.ledger.specs.Ledger.{Region, len, rec}
use Rattle.ledger.specs.WellFormed.{has}
use Rattle.ledger.proofs.Places.{Between}
use Rattle.tables.specs.Layout.{neighbor_prev, neighbor_next, word}
use Rattle.tables.specs.Linked.{Linked, recs, Reads}
use Rattle.tables.proofs.Written.{RegionKept, JoinKept}
use Rattle.tables.proofs.Linked.{linked_kept}

-- ---- the records of a line
pub recs_append : (xs ys : List Region) → recs (xs ++ ys) ≡ recs xs ++ recs ys
recs_append [] ys = refl
recs_append (x ∷ xs) ys = ap {B = List ℕ} (λ l. rec x ∷ l) (recs_append xs ys)

pub recs_count : (q : ℕ) (line : List Region) → tally (is q) (recs line) ≡ tally (has q) line
recs_count q [] = refl
recs_count q (x ∷ xs) = omega (arith, recs_count q xs)

-- ---- their chain
abbrev pub Chain : List ℕ → (p : ℕ) → List ℕ → (y : ℕ) → Type 0
Chain nodes p xs y = Linked (word nodes neighbor_next) (word nodes neighbor_prev) p xs y

pub chain_kept : (nodes after : List ℕ) (p : ℕ) (xs : List ℕ) (y : ℕ) → ((q : ℕ) → In q xs → JoinKept nodes after q)
    → Chain nodes p xs y → Chain after p xs y
chain_kept nodes after p xs y h =
    linked_kept (word nodes neighbor_next) (word nodes neighbor_prev) (word after neighbor_next) (word after neighbor_prev) p xs y
    (λ q m. (h q m).next_kept) (λ q m. (h q m).prev_kept)

-- ---- what they say of the regions
pub reads_split : (nodes : List ℕ) (o : ℕ) (xs ys : List Region) → Reads nodes o (xs ++ ys)
    → Reads nodes o xs × Reads nodes (o + tally len xs) ys
reads_split nodes o [] ys h = (tt, let here : o ≡ o + 0 = omega arith in rw (← here) h)
reads_split nodes o (x ∷ xs) ys h =
    let parts = reads_split nodes (o + len x) xs ys h.3 in
    let further : o + len x + tally len xs ≡ o + (len x + tally len xs) = omega arith in
    ((h.0, h.1, h.2, parts.0), rw (← further) parts.1)

-- what stands before a region of the line, in address order, and what stands from it on
pub reads_at : {before after line : List Region} {x : Region} (nodes : List ℕ) → Between before x after line → Reads nodes 0 line
    → Reads nodes 0 (reverse before) × Reads nodes (0 + tally len (reverse before)) (x ∷ after)
reads_at {before} {after} {x = x} nodes b r =
    reads_split nodes 0 (reverse before) (x ∷ after) (subst (Reads nodes 0) (b.line_is ∙ reverse_aux-eq before (x ∷ after)) r)

pub reads_join : (nodes : List ℕ) (o : ℕ) (xs ys : List Region) → Reads nodes o xs → Reads nodes (o + tally len xs) ys
    → Reads nodes o (xs ++ ys)
reads_join nodes o [] ys h k = let here : o + 0 ≡ o = omega arith in rw here at k
reads_join nodes o (x ∷ xs) ys h k =
    let further : o + (len x + tally len xs) ≡ o + len x + tally len xs = omega arith in
    (h.0, h.1, h.2, reads_join nodes (o + len x) xs ys h.3 (rw further at k))

pub reads_kept : (nodes after : List ℕ) (o : ℕ) (xs : List Region) → ((q : ℕ) → In q (recs xs) → RegionKept nodes after q)
    → Reads nodes o xs → Reads after o xs
reads_kept nodes after o [] h k = tt
reads_kept nodes after o (x ∷ xs) h k =
    let here = h (rec x) (held_first (rec x) (recs xs)) in (
      here.offset_kept ∙ k.0,
      here.size_kept ∙ k.1,
      here.used_kept ∙ k.2,
      reads_kept nodes after (o + len x) xs (λ q m. h q (in_tail q (rec x) (recs xs) m)) k.3,
    )
