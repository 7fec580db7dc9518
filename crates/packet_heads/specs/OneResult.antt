-- Any two results that a contract of a packet call allows are the same values of the code: answers, of each store its scalars or head, its arrays, its
-- tables and its bytes, and the audit's scratch. proofs/OneResult.antt makes it. Assumes nothing.
use Rattle.std.specs.Prelude.{◌≡◌, List, ℕ, Result}
use Rattle.small_float.specs.declared.Size.{Size}
use Rattle.answers.specs.declared.StorageReport.{StorageReport}
use Rattle.tables.specs.Words.{Edition}
use Rattle.records.specs.declared.totals.Totals.{Totals}
use Rattle.offset_allocator.specs.declared.head.Head.{Head}
use Rattle.packets.specs.declared.Store.{Store}
use Rattle.packets.specs.declared.Packet.{Packet}
use Rattle.packets.specs.declared.PacketRefusal.{PacketRefusal}
use Rattle.packets.specs.Stores.{Kept, Two, two, placed, with_bytes, store_of}
use Rattle.packets.specs.Calls.{PacketCall, shows}
use Rattle.packets.specs.Answers.{done_says, grant_says, length_says, report_says}
use Rattle.packets.specs.Promise.{PacketPromise, PacketSetup, PacketSetupBoth, PacketAudit}
use Rattle.packet_heads.specs.HeadStores.{head_store}

-- what a call leaves of one store, in place and by value
pub record InPlace : Type 0 where
  pub totals : Totals
  pub bin_indices : List ℕ
  pub used_bins : List ℕ
  pub nodes : List ℕ
  pub pile : List ℕ
  pub bytes : List ℕ

pub record ByValue : Type 0 where
  pub head : Head
  pub nodes : List ℕ
  pub pile : List ℕ
  pub bytes : List ℕ

-- a form: what a call leaves of one store in it, and how that makes a store
pub record Form : Type 1 where
  pub Left : Type 0
  pub store : Left → Kept

abbrev pub in_place : Form
in_place = record {
  Left = InPlace;
  store = λ v. store_of v.totals v.bin_indices v.used_bins v.nodes v.pile v.bytes;
}

abbrev pub by_value : Form
by_value = record { Left = ByValue; store = λ v. head_store v.head v.nodes v.pile v.bytes }

pub record PacketOneResult (E : Edition) (F : Form) : Type 0 where
  -- setup of one store is lent nothing of the other one to be written
  pub of_setup : (s : Store) (size count : ℕ) (t : Two) (beside : Kept) (a b : Result Unit PacketRefusal) (v u : F.Left)
      → PacketSetup E s size count t (placed s (F.store v) beside) (done_says a)
      → PacketSetup E s size count t (placed s (F.store u) beside) (done_says b) → (a ≡ b) × (v ≡ u)
  -- of the calls that change both stores, on and ex are what one result has of the on-chip and of the external store, on-too and ex-too the other
  pub of_setup_both : (size count other-size other-count : ℕ) (t : Two) (a b : Result Unit PacketRefusal) (on ex on-too ex-too : F.Left)
      → PacketSetupBoth E size count other-size other-count t (two (F.store on) (F.store ex)) (done_says a)
      → PacketSetupBoth E size count other-size other-count t (two (F.store on-too) (F.store ex-too)) (done_says b)
      → (a ≡ b) × (on ≡ on-too) × (ex ≡ ex-too)
  pub of_take : (c : PacketCall) (t : Two) (a b : Result Packet PacketRefusal) (on ex on-too ex-too : F.Left)
      → PacketPromise E c t (two (F.store on) (F.store ex)) (grant_says a)
      → PacketPromise E c t (two (F.store on-too) (F.store ex-too)) (grant_says b) → (a ≡ b) × (on ≡ on-too) × (ex ≡ ex-too)
  pub of_back : (c : PacketCall) (t : Two) (a b : Result Unit PacketRefusal) (on ex on-too ex-too : F.Left)
      → PacketPromise E c t (two (F.store on) (F.store ex)) (done_says a)
      → PacketPromise E c t (two (F.store on-too) (F.store ex-too)) (done_says b) → (a ≡ b) × (on ≡ on-too) × (ex ≡ ex-too)
  -- a fill is lent all but the bytes to be read
  pub of_fill : (c : PacketCall) (t : Two) (a b : Result Unit PacketRefusal) (on ex on-too ex-too : List ℕ)
      → PacketPromise E c t (two (with_bytes t.on_chip on) (with_bytes t.external ex)) (done_says a)
      → PacketPromise E c t (two (with_bytes t.on_chip on-too) (with_bytes t.external ex-too)) (done_says b)
      → (a ≡ b) × (on ≡ on-too) × (ex ≡ ex-too)
  -- a read, the questions and the audit leave what they were lent, but for the audit's scratch. A read answers with the bytes that it shows
  pub of_read : (c : PacketCall) (t : Two) (shown other : List ℕ) → PacketPromise E c t t (shows shown) → PacketPromise E c t t (shows other)
      → shown ≡ other
  pub of_length : (c : PacketCall) (t : Two) (a b : Result Size PacketRefusal) → PacketPromise E c t t (length_says a)
      → PacketPromise E c t t (length_says b) → a ≡ b
  pub of_report : (c : PacketCall) (t : Two) (a b : Result StorageReport PacketRefusal) → PacketPromise E c t t (report_says a)
      → PacketPromise E c t t (report_says b) → a ≡ b
  pub of_audit : (s : Store) (t : Two) (scratch left other : List ℕ) (a b : Result Unit PacketRefusal) → PacketAudit E s t scratch left (done_says a)
      → PacketAudit E s t scratch other (done_says b) → (a ≡ b) × (left ≡ other)

-- in both forms, under any edition
pub record PacketOneResultInBoth (E : Edition) : Type 0 where
  pub placed : PacketOneResult E in_place
  pub valued : PacketOneResult E by_value
