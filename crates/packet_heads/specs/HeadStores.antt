-- A store whose head comes by value, with its two lent tables and its bytes. Assumes nothing.
use Rattle.std.specs.Prelude.{ℕ, List}
use Rattle.offset_allocator.specs.HeadWords.{head_words}
use Rattle.offset_allocator.specs.declared.head.Head.{Head}
use Rattle.packets.specs.Stores.{Kept}

abbrev pub head_store : Head → (nodes free-nodes bytes : List ℕ) → Kept
head_store h nodes free-nodes bytes = record { words = head_words h nodes free-nodes; bytes = bytes }
