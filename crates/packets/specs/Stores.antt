-- Two stores: of each the words of its allocator, and its bytes. Assumes nothing.
use Rattle.std.specs.Prelude.{ℕ, List}
use Rattle.tables.specs.Words.{Words}
use Rattle.records.specs.InWords.{words_of}
use Rattle.records.specs.declared.totals.Totals.{Totals}
use Rattle.packets.specs.declared.Store.{Store}
use Rattle.packets.specs.declared.Store.TheVariants.{OnChip, External}

pub record Kept : Type 0 where
  pub words : Words
  pub bytes : List ℕ

pub record Two : Type 0 where
  pub on_chip : Kept
  pub external : Kept

abbrev pub two : Kept → Kept → Two
two a b = record { on_chip = a; external = b }

-- the one that is meant, and the two with that one changed
abbrev pub at : Store → Two → Kept
at OnChip t = t.on_chip
at External t = t.external

abbrev pub put : Store → Kept → Two → Two
put OnChip k t = two k t.external
put External k t = two t.on_chip k

abbrev pub other : Store → Store
other OnChip = External
other External = OnChip

-- of any two values, one for each store, that of the store that is meant
abbrev pub one_at : {H : Type 0} → Store → (on-chip external : H) → H
one_at OnChip on-chip external = on-chip
one_at External on-chip external = external

-- the two, of which this one is the store that is meant
abbrev pub placed : Store → (meant beside : Kept) → Two
placed OnChip k b = two k b
placed External k b = two b k

-- one store changed in its words, its bytes staying; and in its bytes, its words staying
abbrev pub with_words : Kept → Words → Kept
with_words k w = record { words = w; bytes = k.bytes }

abbrev pub with_bytes : Kept → List ℕ → Kept
with_bytes k bytes = record { words = k.words; bytes = bytes }

-- a store as the code has it: the scalars by value, and the rest lent
abbrev pub store_of : Totals → (heads leaves nodes pile bytes : List ℕ) → Kept
store_of t heads leaves nodes pile bytes = record { words = words_of t heads leaves nodes pile; bytes = bytes }
