-- A part, and a store with bytes over a part of it, byte by byte. Assumes nothing.
use mathlib.Core.Path.{◌≡◌, refl, sym, ap, ◌∙◌}
use Prim.Native.Nat.{ℕ, ◌+◌, ◌-◌, ◌≤◌, ◌<◌}
use native.Mathlib.Omega.{arith}
use mathlib.Core.List.{List, ◌++◌}
use lib.ListN.{length, get_or, take, drop, length-append, length-drop, length-replicate, get_or-replicate, get_or-append}
use lib.Seq.{length-take-le, get_or-append-add, get_or-take, get_or-drop}
use Rattle.parts.specs.Bytes.{part_of, over, not_heard, marked, BytesMean}

pub part_length : (store : List ℕ) (offset n : ℕ) → offset + n ≤ length store → length (part_of store offset n) ≡ n
unfolding part_of
part_length store offset n h =
    let rest : length (drop offset store) ≡ length store - offset = length-drop offset store in
    length-take-le n (drop offset store) (omega arith)

part_bytes : (store : List ℕ) (offset n i : ℕ) → i < n → get_or (part_of store offset n) i 0 ≡ get_or store (offset + i) 0
unfolding part_of
part_bytes store offset n i h = get_or-take n (drop offset store) i 0 h ∙ get_or-drop offset store i 0

pub over_length : (store : List ℕ) (offset : ℕ) (bytes : List ℕ) → offset + length bytes ≤ length store
    → length (over store offset bytes) ≡ length store
unfolding over
over_length store offset bytes h =
    let front : length (take offset store) ≡ offset = length-take-le offset store (omega arith) in
    let back : length (drop (offset + length bytes) store) ≡ length store - (offset + length bytes) = length-drop (offset + length bytes) store in
    let middle : length (bytes ++ drop (offset + length bytes) store) ≡ length bytes + length (drop (offset + length bytes) store) =
    length-append bytes (drop (offset + length bytes) store) in
    length-append (take offset store) (bytes ++ drop (offset + length bytes) store) ∙ omega arith

-- from the offset on
behind_front : (store : List ℕ) (offset : ℕ) (rest : List ℕ) (i : ℕ) → offset ≤ length store
    → get_or (take offset store ++ rest) (offset + i) 0 ≡ get_or rest i 0
behind_front store offset rest i h =
    ap (λ (k : ℕ). get_or (take offset store ++ rest) (k + i) 0) (sym (length-take-le offset store h)) ∙ get_or-append-add (take offset store) rest i 0

over_there : (store : List ℕ) (offset : ℕ) (bytes : List ℕ) (i : ℕ) → offset ≤ length store → i < length bytes
    → get_or (over store offset bytes) (offset + i) 0 ≡ get_or bytes i 0
unfolding over
over_there store offset bytes i h k =
    behind_front store offset (bytes ++ drop (offset + length bytes) store) i h ∙ get_or-append bytes (drop (offset + length bytes) store) 0 i k

over_before : (store : List ℕ) (offset : ℕ) (bytes : List ℕ) (i : ℕ) → offset ≤ length store → i < offset
    → get_or (over store offset bytes) i 0 ≡ get_or store i 0
unfolding over
over_before store offset bytes i h k =
    let front : length (take offset store) ≡ offset = length-take-le offset store h in
    get_or-append (take offset store) (bytes ++ drop (offset + length bytes) store) 0 i (omega arith) ∙ get_or-take offset store i 0 k

over_behind : (store : List ℕ) (offset : ℕ) (bytes : List ℕ) (i : ℕ) → offset ≤ length store → offset + length bytes ≤ i
    → get_or (over store offset bytes) i 0 ≡ get_or store i 0
unfolding over
over_behind store offset bytes i h k =
    let j = i - (offset + length bytes) in
    let place : i ≡ offset + (length bytes + j) = omega arith in
    let rest = drop (offset + length bytes) store in
    ap (λ (x : ℕ). get_or (take offset store ++ (bytes ++ rest)) x 0) place
    ∙ behind_front store offset (bytes ++ rest) (length bytes + j) h
    ∙ get_or-append-add bytes rest j 0
    ∙ get_or-drop (offset + length bytes) store j 0
    ∙ ap (λ (x : ℕ). get_or store x 0) (omega arith)

pub not_heard_length : (n : ℕ) → length (not_heard n) ≡ n
unfolding not_heard
not_heard_length n = length-replicate n 255

not_heard_bytes : (n i : ℕ) → i < n → get_or (not_heard n) i 0 ≡ 255
unfolding not_heard
not_heard_bytes n i h = get_or-replicate n i 255 0 h

marked_is : (store : List ℕ) (offset n : ℕ) → marked store offset n ≡ over store offset (not_heard n)
unfolding marked
marked_is store offset n = refl

pub bytes_mean : BytesMean
bytes_mean = record {
  part_length = part_length;
  part_bytes = part_bytes;
  over_length = over_length;
  over_there = over_there;
  over_before = over_before;
  over_behind = over_behind;
  not_heard_length = not_heard_length;
  not_heard_bytes = not_heard_bytes;
  marked_is = marked_is;
}
