-- A part of a store of bytes, and the store with bytes written over a part. Assumes nothing.
use Rattle.std.specs.Prelude.{◌≡◌, ℕ, ◌+◌, ◌≤◌, ◌<◌, List, ◌++◌, length, get_or, take, drop, replicate}

-- the n bytes from the offset on
unfoldable pub part_of : List ℕ → (offset n : ℕ) → List ℕ
part_of store offset n = take n (drop offset store)

-- the store with these bytes from the offset on: what stood before them, they themselves, and what stands behind them
unfoldable pub over : List ℕ → (offset : ℕ) → List ℕ → List ℕ
over store offset bytes = take offset store ++ (bytes ++ drop (offset + length bytes) store)

-- "Every byte of a fresh grant is set to 255, our mark for not heard"
unfoldable pub not_heard : ℕ → List ℕ
not_heard n = replicate n 255

unfoldable pub marked : List ℕ → (offset n : ℕ) → List ℕ
unfolding over not_heard
marked store offset n = over store offset (not_heard n)

-- ---- the same told byte by byte; proofs/Meanings.antt makes it
pub record BytesMean : Type 0 where
  -- a part has its length, and its bytes are the store's from the offset on
  pub part_length : (store : List ℕ) (offset n : ℕ) → offset + n ≤ length store → length (part_of store offset n) ≡ n
  pub part_bytes : (store : List ℕ) (offset n i : ℕ) → i < n → get_or (part_of store offset n) i 0 ≡ get_or store (offset + i) 0
  -- a store with bytes over a part of it is as long as it was, has these bytes there, and every other byte as it was
  pub over_length : (store : List ℕ) (offset : ℕ) (bytes : List ℕ) → offset + length bytes ≤ length store
      → length (over store offset bytes) ≡ length store
  pub over_there : (store : List ℕ) (offset : ℕ) (bytes : List ℕ) (i : ℕ) → offset ≤ length store → i < length bytes
      → get_or (over store offset bytes) (offset + i) 0 ≡ get_or bytes i 0
  pub over_before : (store : List ℕ) (offset : ℕ) (bytes : List ℕ) (i : ℕ) → offset ≤ length store → i < offset
      → get_or (over store offset bytes) i 0 ≡ get_or store i 0
  pub over_behind : (store : List ℕ) (offset : ℕ) (bytes : List ℕ) (i : ℕ) → offset ≤ length store → offset + length bytes ≤ i
      → get_or (over store offset bytes) i 0 ≡ get_or store i 0
  -- marked is written over with as many bytes of 255
  pub not_heard_length : (n : ℕ) → length (not_heard n) ≡ n
  pub not_heard_bytes : (n i : ℕ) → i < n → get_or (not_heard n) i 0 ≡ 255
  pub marked_is : (store : List ℕ) (offset n : ℕ) → marked store offset n ≡ over store offset (not_heard n)
