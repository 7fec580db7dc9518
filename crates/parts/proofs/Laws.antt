-- Laws of a part that is lent, written and put back. Assumes nothing.
use Prim.Native.Nat.{ℕ, suc, ◌+◌, ◌-◌, ◌≤◌, ◌<◌}
use native.Mathlib.Nat.{add-sub_cancel_left, le_of_lt}
use native.Mathlib.Numerals.{add-one}
use native.Mathlib.Omega.{arith}
use mathlib.Core.List.{List, ◌++◌, append_assoc}
use mathlib.Core.Path.{◌≡◌, sym, ap, subst, ◌∙◌}
use lib.ListN.{length, take, drop, get_or, set, replicate, length-drop, length-replicate, take-append-drop}
use lib.Seq.{drop-cons, set_at, append_snoc, take-suc, length-take-le, drop-append-le, drop-drop, take-length}
use borrow.Rule.Slice.PartMut.{put_mid}
use Rattle.parts.specs.Bytes.{over, not_heard, marked}

-- d with its first i elements from s
abbrev pub copied : List ℕ → List ℕ → ℕ → List ℕ
copied d s i = take i s ++ drop i d

pub copied_next : (d s : List ℕ) (i : ℕ) → i < length d → i < length s → set (copied d s i) i (get_or s i 0) ≡ copied d s (i + 1)
copied_next d s i hd hs =
    ap (λ (r : List ℕ). set (take i s ++ r) i (get_or s i 0)) (drop-cons d i 0 hd)
    ∙ set_at (take i s) (get_or d i 0) (drop (suc i) d) (get_or s i 0) i (length-take-le i s (le_of_lt hs))
    ∙ sym (append_snoc (take i s) (get_or s i 0) (drop (suc i) d))
    ∙ ap (λ (r : List ℕ). r ++ drop (suc i) d) (sym (take-suc s i 0 hs))
    ∙ ap (λ (k : ℕ). copied d s k) (sym (add-one i))

pub copied_all : (d s : List ℕ) → copied d s (length s) ≡ s ++ drop (length s) d
copied_all d s = ap (λ (r : List ℕ). r ++ drop (length s) d) (take-length s)

-- a part that was lent, got w at its front and came back
part_over : (s w : List ℕ) (a n : ℕ) → a + n ≤ length s → length w ≤ n
    → take a s ++ ((w ++ drop (length w) (take n (drop a s))) ++ drop n (drop a s)) ≡ over s a w
unfolding over
part_over s w a n h k =
    let p : List ℕ = drop a s in
    let lp : length (drop a s) ≡ length s - a = length-drop a s in
    let m : length w ≤ length (take n (drop a s)) = subst (λ (x : ℕ). length w ≤ x) (sym (length-take-le n (drop a s) (omega arith))) k in
    ap (λ (r : List ℕ). take a s ++ r)
    (append_assoc w (drop (length w) (take n p)) (drop n p)
    ∙ ap (λ (r : List ℕ). w ++ r)
    (sym (drop-append-le (length w) (take n p) (drop n p) m)
    ∙ ap (λ (r : List ℕ). drop (length w) r) (take-append-drop n p)
    ∙ drop-drop (length w) a s))

-- the same as a call leaves it: the part from a to a + n was lent, and ys came back
pub lent_over : (s ys w : List ℕ) (a n : ℕ) → a + n ≤ length s → length w ≤ n
    → ys ≡ w ++ drop (length w) (take (a + n - a) (drop a s)) → put_mid a (a + n - a) s ys ≡ over s a w
lent_over s ys w a n h k e =
    ap (λ (r : List ℕ). put_mid a (a + n - a) s r) e
    ∙ ap (λ (m : ℕ). put_mid a m s (w ++ drop (length w) (take m (drop a s)))) (add-sub_cancel_left a n)
    ∙ part_over s w a n h k

pub lent_marked : (s ys : List ℕ) (a n : ℕ) → a + n ≤ length s
    → ys ≡ replicate (length (take (a + n - a) (drop a s))) 255 → put_mid a (a + n - a) s ys ≡ marked s a n
unfolding marked over not_heard
lent_marked s ys a n h e =
    let lp : length (drop a s) ≡ length s - a = length-drop a s in
    let lt : length (take n (drop a s)) ≡ n = length-take-le n (drop a s) (omega arith) in
    ap (λ (r : List ℕ). put_mid a (a + n - a) s r) e
    ∙ ap (λ (m : ℕ). put_mid a m s (replicate (length (take m (drop a s))) 255)) (add-sub_cancel_left a n)
    ∙ ap (λ (m : ℕ). take a s ++ (replicate m 255 ++ drop n (drop a s))) lt
    ∙ ap (λ (r : List ℕ). take a s ++ (replicate n 255 ++ r)) (drop-drop n a s ∙ ap (λ (m : ℕ). drop (a + m) s) (sym (length-replicate n 255)))
