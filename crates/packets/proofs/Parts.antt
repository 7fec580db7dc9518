-- A part of a store of bytes, after bytes were written over another part, or over its front. Assumes nothing.
use mathlib.Core.Path.{◌≡◌, sym, ap, subst, ◌∙◌}
use mathlib.Core.Logic.{inl, inr}
use mathlib.Core.List.{List, [], ◌++◌, append_assoc, append-nil}
use Prim.Native.Nat.{ℕ, ◌+◌, ◌-◌, ◌≤◌}
use native.Mathlib.Omega.{arith}
use lib.ListN.{length, take, drop, length-append, length-drop, take-append-drop, drop_of_length-le}
use lib.Seq.{length-take-le, take-append-le, drop-append-le, drop-append-add, drop-drop, take_at, drop_at}
use Rattle.ledger.specs.Spans.{Disjoint}
use Rattle.parts.specs.Bytes.{part_of, over, not_heard, marked}
use Rattle.parts.proofs.Meanings.{part_length, over_length, not_heard_length}
use Rattle.packets.specs.Shelf.{refilled}

-- ---- a part in front of what is written
front_only : (xs one other : List ℕ) (p n : ℕ) → p + n ≤ length xs → take n (drop p (xs ++ one)) ≡ take n (drop p (xs ++ other))
front_only xs one other p n h = part one ∙ sym (part other)
  where
    part : (rest : List ℕ) → take n (drop p (xs ++ rest)) ≡ take n (drop p xs)
    part rest =
        ap (λ (r : List ℕ). take n r) (drop-append-le p xs rest (omega arith))
        ∙ take-append-le n (drop p xs) rest (omega (arith, length-drop p xs))

part_before : (b : List ℕ) (o : ℕ) (w : List ℕ) (p n : ℕ) → o + length w ≤ length b → p + n ≤ o → part_of (over b o w) p n ≡ part_of b p n
unfolding part_of over
part_before b o w p n h k =
    front_only (take o b) (w ++ drop (o + length w) b) (drop o b) p n (omega (arith, length-take-le o b (omega arith)))
    ∙ ap (λ (r : List ℕ). take n (drop p r)) (take-append-drop o b)

-- ---- a part behind it
behind_only : (xs ys rest : List ℕ) (p : ℕ) → length xs ≡ length ys → length xs ≤ p → drop p (xs ++ rest) ≡ drop p (ys ++ rest)
behind_only xs ys rest p e h =
    let more : p ≡ length xs + (p - length xs) = omega arith in
    let as-much : p ≡ length ys + (p - length xs) = omega arith in
    ap (λ (k : ℕ). drop k (xs ++ rest)) more
    ∙ drop-append-add xs rest (p - length xs)
    ∙ sym (drop-append-add ys rest (p - length xs))
    ∙ ap (λ (k : ℕ). drop k (ys ++ rest)) (sym as-much)

part_behind : (b : List ℕ) (o : ℕ) (w : List ℕ) (p n : ℕ) → o + length w ≤ length b → o + length w ≤ p → part_of (over b o w) p n ≡ part_of b p n
unfolding part_of over
part_behind b o w p n h k =
    let end = o + length w in
    let front : length (take o b ++ w) ≡ end = omega (arith, length-append (take o b) w, length-take-le o b (omega arith)) in
    let before : length (take end b) ≡ end = length-take-le end b (omega arith) in
    ap (λ (r : List ℕ). take n (drop p r)) (sym (append_assoc (take o b) w (drop end b)))
    ∙ ap (λ (r : List ℕ). take n r) (behind_only (take o b ++ w) (take end b) (drop end b) p (front ∙ sym before) (omega arith))
    ∙ ap (λ (r : List ℕ). take n (drop p r)) (take-append-drop end b)

-- ---- so one that does not overlap stays
pub part_stays : (b : List ℕ) (o : ℕ) (w : List ℕ) (p n : ℕ) → o + length w ≤ length b → Disjoint o (length w) p n
    → part_of (over b o w) p n ≡ part_of b p n
part_stays b o w p n h (inl k) = part_behind b o w p n h k
part_stays b o w p n h (inr k) = part_before b o w p n h k

-- ---- the part whose front is written
pub part_written : (b : List ℕ) (o : ℕ) (w : List ℕ) (n : ℕ) → o + n ≤ length b → length w ≤ n
    → part_of (over b o w) o n ≡ refilled w (part_of b o n)
unfolding part_of over
part_written b o w n h k =
    let part : List ℕ = take n (drop o b) in
    let rest : List ℕ = drop n (drop o b) in
    let many : length (take n (drop o b)) ≡ n = length-take-le n (drop o b) (omega (arith, length-drop o b)) in
    let whole : length (w ++ drop (length w) (take n (drop o b))) ≡ n =
    omega (arith, many, length-append w (drop (length w) (take n (drop o b))), length-drop (length w) (take n (drop o b))) in
    ap (λ (r : List ℕ). take n r) (drop_at (take o b) (w ++ drop (o + length w) b) o (length-take-le o b (omega arith)))
    ∙ ap (λ (r : List ℕ). take n (w ++ r)) (sym (drop-drop (length w) o b))
    ∙ ap (λ (r : List ℕ). take n (w ++ drop (length w) r)) (sym (take-append-drop n (drop o b)))
    ∙ ap (λ (r : List ℕ). take n (w ++ r)) (drop-append-le (length w) part rest (omega (arith, many)))
    ∙ ap (λ (r : List ℕ). take n r) (sym (append_assoc w (drop (length w) part) rest))
    ∙ take_at (w ++ drop (length w) part) rest n whole

-- ---- a part that is marked
pub marked_length : (b : List ℕ) (o n : ℕ) → o + n ≤ length b → length (marked b o n) ≡ length b
unfolding marked
marked_length b o n h = over_length b o (not_heard n) (omega (arith, not_heard_length n))

pub marked_stays : (b : List ℕ) (o m p n : ℕ) → o + m ≤ length b → Disjoint o m p n → part_of (marked b o m) p n ≡ part_of b p n
unfolding marked
marked_stays b o m p n h k =
    part_stays b o (not_heard m) p n (omega (arith, not_heard_length m))
    (subst (λ (i : ℕ). Disjoint o i p n) (sym (not_heard_length m)) k)

pub marked_all : (b : List ℕ) (o n : ℕ) → o + n ≤ length b → part_of (marked b o n) o n ≡ not_heard n
unfolding marked
marked_all b o n h =
    let none_left : drop (length (not_heard n)) (part_of b o n) ≡ [] =
    drop_of_length-le (part_of b o n) {i = length (not_heard n)} (omega (arith, not_heard_length n, part_length b o n h)) in
    part_written b o (not_heard n) n h (omega (arith, not_heard_length n))
    ∙ ap (λ (r : List ℕ). not_heard n ++ r) none_left
    ∙ append-nil (not_heard n)
