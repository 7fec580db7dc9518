-- A store as a program outside of Rattle keeps it: the scalars too stand in an array. Assumes nothing.
use Rattle.std.specs.Prelude.{List, ℕ}
use Rattle.tables.specs.Words.{Edition}
use Rattle.records.specs.InWords.{of_array}
use Rattle.packets.specs.declared.Store.{Store}
use Rattle.packets.specs.Stores.{Kept, placed, store_of}
use Rattle.packets.specs.Calls.{Answered}
use Rattle.packets.specs.Promise.{PacketSetup}

abbrev pub store_in : (scalars heads leaves nodes pile bytes : List ℕ) → Kept
store_in scalars heads leaves nodes pile bytes = store_of (of_array scalars) heads leaves nodes pile bytes

-- a setup of one store finds it as `found` and leaves it as `left`, whichever of the two it is, and whatever the rest of the other one
abbrev pub SetUpAnywhere : (E : Edition) (size count : ℕ) (found left : Kept) (beside bytes-beside : List ℕ) → Answered → Type 0
SetUpAnywhere E size count found left beside bytes-beside a =
    (s : Store) (heads leaves nodes pile : List ℕ)
    → PacketSetup E s size count (placed s found (store_in beside heads leaves nodes pile bytes-beside))
    (placed s left (store_in beside heads leaves nodes pile bytes-beside)) a
