-- The words of a record: word k of record r stands at 8 r + k of `nodes`. Assumes nothing.
use Rattle.std.specs.Prelude.{cond, List, ℕ, ◌+◌, ◌*◌, ltb, get_or, set}

-- ---- the eight words, by the Rust's names
abbrev pub data_offset : ℕ
data_offset = 0

abbrev pub data_size : ℕ
data_size = 1

abbrev pub bin_prev : ℕ
bin_prev = 2

abbrev pub bin_next : ℕ
bin_next = 3

abbrev pub neighbor_prev : ℕ
neighbor_prev = 4

abbrev pub neighbor_next : ℕ
neighbor_next = 5

-- 0: not live; sound tables have 1 in a live record
abbrev pub used : ℕ
used = 6

-- word 7 is kept for later; no call reads or writes it

-- ---- reading and writing, total: past the end a read gives 0 and a write does nothing
unfoldable pub word : List ℕ → ℕ → ℕ → ℕ
word nodes k r = get_or nodes (8 * r + k) 0

unfoldable pub put : (r k v : ℕ) → List ℕ → List ℕ
put r k v nodes = set nodes (8 * r + k) v

-- a write to the record that a link names; nothing where the link is no record below the count
unfoldable pub put_link : (count r k v : ℕ) → List ℕ → List ℕ
put_link count r k v nodes = cond (ltb r count) (put r k v nodes) nodes

-- ---- the lengths that a count of records needs
abbrev pub nodes_needed : ℕ → ℕ
nodes_needed count = 8 * count

abbrev pub pile_needed : ℕ → ℕ
pile_needed count = count
