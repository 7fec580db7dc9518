-- Stores, packets and answers of the packet layer in plain numbers. Assumes nothing.
use Rattle.std.specs.Prelude.{◌≡◌, List, ◌++◌, ℕ, length, take, drop}
use Rattle.ledger.specs.Figures.{refusal_of}
use Rattle.ledger.specs.Calls.{Call}
use Rattle.tables.specs.Words.{Edition}
use Rattle.packets.specs.declared.Packet as held
pub use Rattle.packets.specs.ByNumber.{store_named, store_number, packet_held}
use Rattle.packets.specs.Stores.{Two}
use Rattle.packets.specs.Calls.{PacketCall, Answered, packet, shows, plain}
use Rattle.packets.specs.Promise.{PacketPromise}
use Rattle.host_values.specs.declared.Told.{Told}
use Rattle.host_values.specs.Told.{told_by, refused_by}
use Rattle.host_packets.specs.declared.values.Packet.{Packet}

-- a packet in the store that is named by a number
abbrev pub packet_named : (store offset handle : ℕ) → held.Packet
packet_named store offset handle = packet_held (store_named store) offset handle

-- a refusal with this number
abbrev pub no_packet : (number : ℕ) → Packet
no_packet number = record { number = number; store = 0; offset = 0; handle = 0 }

-- a grant
abbrev pub packet_at : (store offset handle : ℕ) → Packet
packet_at store offset handle = record { number = 0; store = store; offset = offset; handle = handle }

abbrev pub packet_told : Answered → Packet
packet_told (packet s o r) = packet_at (store_number s) o r
packet_told (shows bytes) = no_packet 0
packet_told (plain a) = no_packet (refusal_of a)

-- figures of the question c of one store
abbrev pub told_in : Call → Answered → Told
told_in c (packet s o r) = refused_by 0
told_in c (shows bytes) = refused_by 0
told_in c (plain a) = told_by c a

-- ---- bytes that are shown, at the front of those that were lent: as many as there is room for, and what lay behind them
unfoldable pub fronted : (shown out : List ℕ) → List ℕ
fronted shown out = take (length out) shown ++ drop (length shown) out

-- the read shows these bytes, and leaves the lent ones so
pub record ReadInto (E : Edition) (c : PacketCall) (t : Two) (out left shown : List ℕ) : Type 0 where
  pub read : PacketPromise E c t t (shows shown)
  pub copied : left ≡ fronted shown out
