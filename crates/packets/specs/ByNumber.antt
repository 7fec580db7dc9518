-- Stores and packets by numbers. Assumes nothing.
use Rattle.std.specs.Prelude.{ℕ, zero, suc}
use Rattle.packets.specs.declared.Packet.{Packet}
use Rattle.packets.specs.declared.Store.{Store}
use Rattle.packets.specs.declared.Store.TheVariants.{OnChip, External}

-- a number names a store, and a store is told by one
abbrev pub store_named : ℕ → Store
store_named zero = OnChip
store_named (suc n) = External

abbrev pub store_number : Store → ℕ
store_number OnChip = 0
store_number External = 1

-- a packet in that store
abbrev pub packet_held : Store → (offset handle : ℕ) → Packet
packet_held s offset handle = record { store = s; span = record { offset = offset; metadata = record { 0 = handle } } }
