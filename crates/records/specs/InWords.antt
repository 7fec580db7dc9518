-- The words that the code's pieces make: totals by value, two arrays and two tables lent. The head's scalars are spelled out here and in src/totals.rt,
-- so that a new one is named in these two files. Assumes nothing.
use Rattle.std.specs.Prelude.{◌↔◌, ℕ, ◌+◌, ◌-◌, ◌*◌, ◌≤◌, ◌<◌, ◌≡◌, List, [], ◌∷◌, length, get_or, Result, Ok, Err}
use Rattle.ledger.specs.Ledger.{Answer}
use Rattle.tables.specs.Layout.{data_offset, data_size, bin_prev, bin_next, neighbor_prev, neighbor_next, used}
use Rattle.tables.specs.Words.{Words, Bounds}
use Rattle.tables.specs.Calls.{edition32}
use Rattle.answers.specs.declared.Refusal.{Refusal}
use Rattle.answers.specs.Refusals.{number_of}
use Rattle.answers.specs.Answers.{says}
use Rattle.records.specs.declared.answered.Answered.{Answered}
use Rattle.records.specs.declared.totals.Totals.{Totals}
use Rattle.records.specs.declared.nodes.Field.{Field}
use Rattle.records.specs.declared.nodes.Field.TheVariants.{DataOffset, DataSize, BinListPrev, BinListNext, NeighborPrev, NeighborNext, Used, Kept}

-- ---- where the words of a record stand in it, as the layout has them; nothing stands in the last yet
abbrev pub place : Field → ℕ
place DataOffset = data_offset
place DataSize = data_size
place BinListPrev = bin_prev
place BinListNext = bin_next
place NeighborPrev = neighbor_prev
place NeighborNext = neighbor_next
place Used = used
place Kept = 7

-- ---- the scalars
abbrev pub scalars : (size count free-storage free-offset used-bins-top : ℕ) → Totals
scalars size count free-storage free-offset used-bins-top = record {
  size = size;
  max_allocs = count;
  free_storage = free-storage;
  free_offset = free-offset;
  used_bins_top = used-bins-top;
}

-- what a refused setup gives
abbrev pub zero_totals : Totals
zero_totals = scalars 0 0 0 0 0

-- a store of this size with this many records, all of it free and every record spare
abbrev pub blank_totals : (size count : ℕ) → Totals
blank_totals size count = scalars size count size (count - 1) 0

-- ---- the same with one of them changed
abbrev pub with_size : Totals → ℕ → Totals
with_size t size = scalars size t.max_allocs t.free_storage t.free_offset t.used_bins_top

abbrev pub with_count : Totals → ℕ → Totals
with_count t count = scalars t.size count t.free_storage t.free_offset t.used_bins_top

abbrev pub with_free_storage : Totals → ℕ → Totals
with_free_storage t total = scalars t.size t.max_allocs total t.free_offset t.used_bins_top

abbrev pub with_free_offset : Totals → ℕ → Totals
with_free_offset t offset = scalars t.size t.max_allocs t.free_storage offset t.used_bins_top

abbrev pub with_top_bits : Totals → ℕ → Totals
with_top_bits t top = scalars t.size t.max_allocs t.free_storage t.free_offset top

-- ---- the same as an array, in this order
abbrev pub in_array : Totals → List ℕ
in_array t = t.size ∷ t.max_allocs ∷ t.free_storage ∷ t.free_offset ∷ t.used_bins_top ∷ []

abbrev pub of_array : List ℕ → Totals
of_array a = scalars (get_or a 0 0) (get_or a 1 0) (get_or a 2 0) (get_or a 3 0) (get_or a 4 0)

-- what stands there when t is put back: its scalars, but for the size and the count, which stay
abbrev pub put_back : Totals → List ℕ → List ℕ
put_back t a = in_array (with_count (with_size t (of_array a).size) (of_array a).max_allocs)

-- an array and the scalars in it say the same; proofs/Arrays.antt makes it
pub record ArrayFacts : Type 0 where
  pub of_in : (t : Totals) → of_array (in_array t) ≡ t
  pub in_of : (a : List ℕ) → length a ≡ 5 → in_array (of_array a) ≡ a

-- ---- scalars, arrays and tables as words
abbrev pub words_of : Totals → (heads leaves nodes pile : List ℕ) → Words
words_of t heads leaves nodes pile = record {
  size = t.size;
  count = t.max_allocs;
  free_storage = t.free_storage;
  free_offset = t.free_offset;
  used_bins_top = t.used_bins_top;
  used_bins = leaves;
  bin_indices = heads;
  nodes = nodes;
  pile = pile;
}

-- what a call in place leaves, as values of the code; and the words that they make
pub record InPlace : Type 0 where
  pub totals : Totals
  pub bin_indices : List ℕ
  pub used_bins : List ℕ
  pub nodes : List ℕ
  pub pile : List ℕ

abbrev pub placed_words : InPlace → Words
placed_words v = words_of v.totals v.bin_indices v.used_bins v.nodes v.pile

-- and back: the totals in words
abbrev pub totals_in : Words → Totals
totals_in w = scalars w.size w.count w.free_storage w.free_offset w.used_bins_top

-- n records, with the base's marker of an absent link
abbrev pub bound : ℕ → Bounds
bound n = record { n = n; none = edition32.none }

-- the table holds all the words of n records; of record r
abbrev pub HasRoom : ℕ → List ℕ → Type 0
HasRoom n nodes = 8 * n ≤ length nodes

abbrev pub InTable : ℕ → List ℕ → Type 0
InTable r nodes = 8 * r + 8 ≤ length nodes

-- what the two come to, word by word; proofs/Rooms.antt makes it
pub record RoomFacts : Type 0 where
  pub in_table : (r : ℕ) (nodes : List ℕ) → InTable r nodes ↔ ((k : ℕ) → k < 8 → 8 * r + k < length nodes)
  pub has_room : (n : ℕ) (nodes : List ℕ) → HasRoom n nodes ↔ ((r : ℕ) → r < n → InTable r nodes)

-- ---- an answer in the ledger's terms, and all the words that the call leaves
abbrev pub outcome_of : {T : Type 0} → (T → Answer) → Answered T → (heads leaves nodes pile : List ℕ) → Answer × Words
outcome_of told a heads leaves nodes pile = (says told a.answer, words_of a.totals heads leaves nodes pile)

-- ---- the gate's number: 0 where it is open
abbrev pub gate_number : Result Unit Refusal → ℕ
gate_number (Ok _) = 0
gate_number (Err why) = number_of why
