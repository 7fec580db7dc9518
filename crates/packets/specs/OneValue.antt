-- A refusal of the packet layer is known by its number, and an answer of the code is given by what it says: any two that say the same are one value.
-- proofs/OneValue.antt makes both. Assumes nothing.
use Rattle.std.specs.Prelude.{◌≡◌, ◌↔◌, ◌≢◌, List, [], ◌∷◌, ℕ, ◌≤◌, Result}
use Rattle.ledger.specs.Ledger.{refused}
use Rattle.small_float.specs.declared.Size.{Size}
use Rattle.answers.specs.declared.Refusal.{Refusal}
use Rattle.answers.specs.declared.StorageReport.{StorageReport}
use Rattle.tables.specs.Claims.{OneOf}
use Rattle.packets.specs.declared.Packet.{Packet}
use Rattle.packets.specs.declared.Store.{Store}
use Rattle.packets.specs.declared.PacketRefusal.{PacketRefusal}
use Rattle.packets.specs.declared.PacketRefusal.TheVariants.{StoreTooShort, OfStore, TooManyBytes}
use Rattle.packets.specs.Calls.{packet, shows, plain}
use Rattle.packets.specs.Answers.{why_number, refusal_in, done_says, grant_says, length_says, report_says}

-- why_number told from the other side, so that a number says which refusal it is
pub record PacketNumbers : Type 0 where
  pub none_shared : (why other : PacketRefusal) → why_number why ≡ why_number other → why ≡ other
  -- 9 is a store that is too short and nothing else, 17 too many bytes and nothing else; a store's own refusal has neither number
  pub nine_means : (why : PacketRefusal) → (why_number why ≡ 9) ↔ (why ≡ StoreTooShort)
  pub seventeen_means : (why : PacketRefusal) → (why_number why ≡ 17) ↔ (why ≡ TooManyBytes)
  pub store's_means : (why : PacketRefusal) → ((why_number why ≤ 8) ↔ ((refusal : Refusal) × (why ≡ OfStore refusal)))
  -- the numbers that there are: each of these is a refusal's, and no other; none is 0, by which `number` says that nothing was refused
  pub numbers : (n : ℕ) → ((why : PacketRefusal) × (why_number why ≡ n)) ↔ OneOf (1 ∷ 2 ∷ 3 ∷ 4 ∷ 5 ∷ 6 ∷ 8 ∷ 9 ∷ 17 ∷ []) n
  pub never_0 : (why : PacketRefusal) → why_number why ≢ 0
  -- and of an answer: a refusal's own, 0 of a packet, and 0 of the bytes that a read shows
  pub of_refusal : (why : PacketRefusal) → refusal_in (plain (refused (why_number why))) ≡ why_number why
  pub of_packet : (s : Store) (o r : ℕ) → refusal_in (packet s o r) ≡ 0
  pub of_read : (bytes : List ℕ) → refusal_in (shows bytes) ≡ 0

pub record PacketOneValue : Type 0 where
  pub of_done : (a b : Result Unit PacketRefusal) → done_says a ≡ done_says b → a ≡ b
  pub of_grant : (a b : Result Packet PacketRefusal) → grant_says a ≡ grant_says b → a ≡ b
  pub of_length : (a b : Result Size PacketRefusal) → length_says a ≡ length_says b → a ≡ b
  pub of_report : (a b : Result StorageReport PacketRefusal) → report_says a ≡ report_says b → a ≡ b
