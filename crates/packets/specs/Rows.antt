-- Runs on two small stores with what they must answer and leave, each beneath the sentence that it is a case of, of request 5 where nothing else is
-- said: on-chip of 8 bytes, external of 20, 4 records each, tables of exactly the lengths that are needed, every word and byte 7 at first. They are
-- of the base's edition; proofs/AllRows.antt computes them. Assumes nothing.
use Rattle.std.specs.Prelude.{◌≡◌, List, [], ◌∷◌, ◌++◌, ℕ, replicate}
use Rattle.std.proofs.Math.Option.{Option, none, some}
use Rattle.ledger.specs.Ledger.{Answer, granted, done, length_is, reported, refused}
use Rattle.ledger.specs.Calls.{span_of}
use Rattle.ledger.specs.Calls as ledger
use Rattle.tables.specs.Layout.{data_size, nodes_needed, pile_needed}
use Rattle.tables.specs.Layout as layout
use Rattle.tables.specs.Words.{with_nodes, with_tables, with_lists, words_from}
use Rattle.tables.specs.Setup.{lent_of, zeros}
use Rattle.tables.specs.Calls.{edition32}
use Rattle.demands.specs.Runs as below
use Rattle.packets.specs.declared.Store.{Store}
use Rattle.packets.specs.declared.Store.TheVariants.{OnChip, External}
use Rattle.packets.specs.Stores.{Kept, Two, two, with_words, with_bytes}
use Rattle.packets.specs.Calls.{PacketCall, Take, HandBack, Fill, Read, LengthOf, ReportOf, Answered, packet, shows, plain}
use Rattle.packets.specs.Calls.{packet_words, set_up_words, set_up_both_words, audit_in}
use Rattle.packets.specs.Promise.{made_on}
use Rattle.packets.specs.Runs.{Asking, Calling, SettingUp, SettingUpBoth, Auditing, Happened, did}
use Rattle.packets.specs.Shelf.{contents, shelf, filled_since}
use Rattle.packets.specs.Stretch.{PacketStretch, all_told}

-- ---- what is asked, as the rows write it: of a packet its store, its offset and its record
abbrev pub takes : (size : ℕ) → Asking
takes size = Calling (Take record { size = size })

abbrev pub gives_back : Store → (o r : ℕ) → Asking
gives_back s o r = Calling (HandBack s (span_of o r))

abbrev pub fills : Store → (o r : ℕ) → List ℕ → Asking
fills s o r new = Calling (Fill s (span_of o r) new)

abbrev pub reads : Store → (o r : ℕ) → Asking
reads s o r = Calling (Read s (span_of o r))

abbrev pub asks_length : Store → (o r : ℕ) → Asking
asks_length s o r = Calling (LengthOf s (span_of o r))

abbrev pub asks_report : Store → Asking
asks_report s = Calling (ReportOf s)

-- ---- and answered
abbrev pub says_done : Answered
says_done = plain done

abbrev pub refuses : ℕ → Answered
refuses k = plain (refused k)

abbrev pub long : ℕ → Answered
long n = plain (length_is n)

abbrev pub reports : (free largest : ℕ) → Answered
reports free largest = plain (reported free largest)

-- ---- runs: the answers, what is left, and the history
abbrev pub meant : Asking → Two → Answered × Two
meant (Calling c) t = packet_words edition32 c t
meant (SettingUp s size count) t = set_up_words edition32 s size count t
meant (SettingUpBoth size count other-size other-count) t = set_up_both_words edition32 size count other-size other-count t
meant (Auditing s n) t = (plain (audit_in edition32 s t (replicate n 7)).0, t)

unfoldable pub answers_of : List Asking → Two → List Answered
answers_of [] t = []
answers_of (q ∷ qs) t = (meant q t).0 ∷ answers_of qs (meant q t).1

unfoldable pub left : List Asking → Two → Two
left [] t = t
left (q ∷ qs) t = left qs (meant q t).1

unfoldable pub history : List Asking → Two → List Happened
history [] t = []
history (q ∷ qs) t = did q (meant q t).0 ∷ history qs (meant q t).1

-- ---- the stores. No store is there yet: a head of zeros, and sevens
abbrev pub unmade : (bytes count : ℕ) → Kept
unmade bytes count = record {
  words = zeros (lent_of (replicate 256 7) (replicate 32 7) (replicate (nodes_needed count) 7) (replicate (pile_needed count) 7));
  bytes = replicate bytes 7;
}

abbrev pub nowhere : Two
nowhere = two (unmade 8 4) (unmade 20 4)

-- both set up; and with a packet out of each: 3 bytes on the chip and 9 outside it, both at offset 0 under record 0
unfoldable pub fresh : Two
unfolding left
fresh = left (SettingUpBoth 8 4 20 4 ∷ []) nowhere

unfoldable pub with_packets : Two
unfolding left
with_packets = left (takes 3 ∷ takes 9 ∷ []) fresh

-- ---- one of two stores spoiled: its head's count; its tables; its bits; the length of one record; its bytes
abbrev pub counting : (count : ℕ) → Kept → Kept
counting count k =
    let w = k.words in
    with_words k (words_from w.size count w.free_storage w.free_offset w.used_bins_top w.used_bins w.bin_indices w.nodes w.pile)

abbrev pub lending : (nodes pile : ℕ) → Kept → Kept
lending nodes pile k = with_words k (with_tables k.words (replicate nodes 7) (replicate pile 7))

abbrev pub bits : (top : ℕ) → (leaves : List ℕ) → Kept → Kept
bits top leaves k = with_words k (with_lists k.words top leaves k.words.bin_indices k.words.nodes)

abbrev pub as_long : (r n : ℕ) → Kept → Kept
as_long r n k = with_words k (with_nodes k.words (layout.put r data_size n k.words.nodes))

abbrev pub having : (bytes : ℕ) → Kept → Kept
having bytes k = with_bytes k (replicate bytes 7)

abbrev pub on_chip_so : (Kept → Kept) → Two → Two
on_chip_so f t = two (f t.on_chip) t.external

abbrev pub external_so : (Kept → Kept) → Two → Two
external_so f t = two t.on_chip (f t.external)

-- the five scalars of a store's head
abbrev pub head_of : Kept → List ℕ
head_of k = k.words.size ∷ k.words.count ∷ k.words.free_storage ∷ k.words.free_offset ∷ k.words.used_bins_top ∷ []

-- all else of it: the two arrays of its head, its two tables, its bytes
abbrev pub rest_of : Kept → List (List ℕ)
rest_of k = k.words.used_bins ∷ k.words.bin_indices ∷ k.words.nodes ∷ k.words.pile ∷ k.bytes ∷ []

-- ---- what a row says
abbrev pub From : Two → List Asking → List Answered → Type 0
From t asked expected = answers_of asked t ≡ expected

abbrev pub Answering : List Asking → List Answered → Type 0
Answering asked expected = From fresh asked expected

-- the bytes of both stores after it
abbrev pub LeavingBytes : List Asking → (on_chip external : List ℕ) → Type 0
LeavingBytes asked on_chip external = ((left asked fresh).on_chip.bytes ≡ on_chip) × ((left asked fresh).external.bytes ≡ external)

-- answered so, every word and byte of both stores staying
abbrev pub Unchanged : Two → List Asking → List Answered → Type 0
Unchanged t asked expected = (answers_of asked t ≡ expected) × (left asked t ≡ t)

-- the calls that are made below by this one, on the chip and outside it; one with its answer
abbrev pub Makes : PacketCall → Two → (on_chip external : List below.Done) → Type 0
Makes c t on_chip external = (made_on edition32 OnChip c t ≡ on_chip) × (made_on edition32 External c t ≡ external)

abbrev pub once : ledger.Call → Answer → List below.Done
once c a = below.did (below.Calling c) a ∷ []

-- what is in a packet by the history alone
abbrev pub shelved : Store → (o r : ℕ) → List Asking → Option (List ℕ)
shelved s o r asked = contents (span_of o r) (shelf s (history asked fresh) [])

-- ---- the same, from the other side: a row says what is answered, left, made and shelved, whatever stands in it
pub record RowsMean : Type 0 where
  pub from_there : (t : Two) (asked : List Asking) (expected : List Answered) → From t asked expected → answers_of asked t ≡ expected
  pub answering : (asked : List Asking) (expected : List Answered) → Answering asked expected → answers_of asked fresh ≡ expected
  pub leaving_bytes : (asked : List Asking) (on_chip external : List ℕ) → LeavingBytes asked on_chip external
      → ((left asked fresh).on_chip.bytes ≡ on_chip) × ((left asked fresh).external.bytes ≡ external)
  pub unchanged : (t : Two) (asked : List Asking) (expected : List Answered) → Unchanged t asked expected
      → (answers_of asked t ≡ expected) × (left asked t ≡ t)
  pub makes : (c : PacketCall) (t : Two) (on_chip external : List below.Done) → Makes c t on_chip external
      → (made_on edition32 OnChip c t ≡ on_chip) × (made_on edition32 External c t ≡ external)
  pub shelved_is : (s : Store) (o r : ℕ) (asked : List Asking) → shelved s o r asked ≡ contents (span_of o r) (shelf s (history asked fresh) [])
  pub rest_is : (k m : Kept) → rest_of k ≡ rest_of m
      → (k.words.used_bins ≡ m.words.used_bins) × (k.words.bin_indices ≡ m.words.bin_indices) × (k.words.nodes ≡ m.words.nodes)
      × (k.words.pile ≡ m.words.pile) × (k.bytes ≡ m.bytes)

-- every call on packets that are out, and some that are 17, 5 or 8 where no store is too short
abbrev pub every_call : List Asking
every_call =
    takes 1 ∷ takes 9 ∷ takes 99
    ∷ gives_back OnChip 0 0 ∷ gives_back External 0 0 ∷ gives_back OnChip 0 3 ∷ gives_back External 1 0
    ∷ fills OnChip 0 0 (1 ∷ []) ∷ fills External 0 0 (1 ∷ []) ∷ fills OnChip 0 0 (1 ∷ 2 ∷ 3 ∷ 4 ∷ []) ∷ fills OnChip 0 0 []
    ∷ asks_length OnChip 0 0 ∷ asks_length External 0 0 ∷ asks_report OnChip ∷ asks_report External
    ∷ Auditing OnChip 4 ∷ Auditing External 4 ∷ Auditing External 0
    ∷ reads OnChip 0 0 ∷ reads External 0 0
    ∷ []

-- every one of them refused with this number, and nothing read
abbrev pub all_refused : ℕ → List Answered
all_refused k = replicate 18 (refuses k) ++ (shows [] ∷ shows [] ∷ [])

pub record PacketRows : Type 0 where
  -- ---- "keeps packets in an on-chip store and an external one, each with its own tables": both set up, nothing taken, no byte written
  pub begun : From nowhere (SettingUpBoth 8 4 20 4 ∷ asks_report OnChip ∷ asks_report External ∷ Auditing OnChip 4 ∷ Auditing External 4 ∷ [])
      (says_done ∷ reports 8 8 ∷ reports 20 20 ∷ says_done ∷ says_done ∷ [])
  pub begun_bytes : LeavingBytes [] (replicate 8 7) (replicate 20 7)
  -- ---- "A take tries on-chip first": as long as it has room, down to its last byte; only then is the external store touched
  pub on_chip_first : Answering
      (takes 3 ∷ takes 5 ∷ asks_report OnChip ∷ asks_report External ∷ takes 1 ∷ asks_report OnChip ∷ asks_report External ∷ [])
      (packet OnChip 0 0 ∷ packet OnChip 3 1 ∷ reports 0 0 ∷ reports 20 20 ∷ packet External 0 0 ∷ reports 0 0 ∷ reports 19 18 ∷ [])
  -- "and, on 3 or 4 only, external; the answer says which": on 4; the next take tries on-chip first again
  pub external_on_4 : Answering (takes 9 ∷ takes 8 ∷ takes 9 ∷ asks_report External ∷ [])
      (packet External 0 0 ∷ packet OnChip 0 0 ∷ packet External 9 1 ∷ reports 0 0 ∷ [])
  -- on 3: the on-chip store has six free bytes but one spare record, until a hand-back merges two regions
  pub external_on_3 : Answering (takes 1 ∷ takes 1 ∷ takes 1 ∷ asks_report OnChip ∷ asks_report External ∷ gives_back OnChip 1 1 ∷ takes 1 ∷ [])
      (packet OnChip 0 0 ∷ packet OnChip 1 1 ∷ packet External 0 0 ∷ reports 0 0 ∷ reports 19 18 ∷ says_done ∷ packet OnChip 1 1 ∷ [])
  -- "or gives the refusal of the last store tried": 3 on the chip and then 4 outside it is 4; 4 and then 3 is 3; 4 and 4, 3 and 3
  pub three_then_four : Answering (takes 1 ∷ takes 1 ∷ takes 21 ∷ takes 20 ∷ takes 0 ∷ [])
      (packet OnChip 0 0 ∷ packet OnChip 1 1 ∷ refuses 4 ∷ packet External 0 0 ∷ refuses 4 ∷ [])
  pub four_then_three : Answering (takes 9 ∷ takes 9 ∷ takes 9 ∷ takes 8 ∷ takes 0 ∷ [])
      (packet External 0 0 ∷ packet External 9 1 ∷ refuses 3 ∷ packet OnChip 0 0 ∷ refuses 3 ∷ [])
  pub four_then_four : Unchanged fresh (takes 21 ∷ takes 4294967295 ∷ []) (refuses 4 ∷ refuses 4 ∷ [])
  pub three_then_three : Unchanged (left (takes 1 ∷ takes 1 ∷ takes 1 ∷ takes 1 ∷ []) fresh) (takes 1 ∷ takes 0 ∷ takes 99 ∷ [])
      (refuses 3 ∷ refuses 3 ∷ refuses 3 ∷ [])
  -- "on 3 or 4 only": not on 6, of a head with a bad count or of bits that contradict, nor on 2, of either table; the external store would grant it
  pub not_on_6 : Unchanged (on_chip_so (counting 1) fresh) (takes 1 ∷ takes 9 ∷ []) (refuses 6 ∷ refuses 6 ∷ [])
  pub not_on_6_above : Unchanged (on_chip_so (counting 1048577) fresh) (takes 1 ∷ takes 9 ∷ []) (refuses 6 ∷ refuses 6 ∷ [])
  pub not_on_6_of_bits : Unchanged (on_chip_so (bits 2 (replicate 32 0)) fresh) (takes 1 ∷ []) (refuses 6 ∷ [])
  pub not_on_2_nodes : Unchanged (on_chip_so (lending 31 4) fresh) (takes 1 ∷ takes 9 ∷ []) (refuses 2 ∷ refuses 2 ∷ [])
  pub not_on_2_pile : Unchanged (on_chip_so (lending 32 3) fresh) (takes 1 ∷ takes 9 ∷ []) (refuses 2 ∷ refuses 2 ∷ [])
  -- the external store's 6 and 2 are met only where it is tried, and are then the answer
  pub external_6 : From (external_so (counting 1) fresh) (takes 9 ∷ takes 1 ∷ takes 9 ∷ []) (refuses 6 ∷ packet OnChip 0 0 ∷ refuses 6 ∷ [])
  pub external_2 : From (external_so (lending 31 4) fresh) (takes 9 ∷ takes 1 ∷ takes 9 ∷ []) (refuses 2 ∷ packet OnChip 0 0 ∷ refuses 2 ∷ [])
  -- ---- "Every byte of a fresh grant is set to 255": of either store, at its front, in its midst, and of the whole of it; and no other byte
  pub marked_on_chip : LeavingBytes (takes 3 ∷ []) (255 ∷ 255 ∷ 255 ∷ 7 ∷ 7 ∷ 7 ∷ 7 ∷ 7 ∷ []) (replicate 20 7)
  pub marked_external : LeavingBytes (takes 9 ∷ []) (replicate 8 7) (replicate 9 255 ++ replicate 11 7)
  pub marked_amid : LeavingBytes (takes 2 ∷ fills OnChip 0 0 (1 ∷ 2 ∷ []) ∷ takes 3 ∷ [])
      (1 ∷ 2 ∷ 255 ∷ 255 ∷ 255 ∷ 7 ∷ 7 ∷ 7 ∷ []) (replicate 20 7)
  pub marked_amid_external : LeavingBytes (takes 9 ∷ fills External 0 0 (replicate 9 1) ∷ takes 9 ∷ [])
      (replicate 8 7) (replicate 9 1 ++ (replicate 9 255 ++ (7 ∷ 7 ∷ [])))
  pub marked_whole : LeavingBytes (takes 8 ∷ takes 20 ∷ []) (replicate 8 255) (replicate 20 255)
  pub marked_none : LeavingBytes (takes 0 ∷ takes 21 ∷ []) (replicate 8 7) (replicate 20 7)
  -- a store's take does not mark where the other one's grant lies
  pub marked_each : LeavingBytes (takes 3 ∷ takes 9 ∷ []) (255 ∷ 255 ∷ 255 ∷ 7 ∷ 7 ∷ 7 ∷ 7 ∷ 7 ∷ []) (replicate 9 255 ++ replicate 11 7)
  -- ---- "Filling .. more bytes than the span holds is 17, after all else, and fewer fill its front": fewer, as many, one more, none, and twice
  pub fills_fewer : Answering (takes 3 ∷ fills OnChip 0 0 (1 ∷ 2 ∷ []) ∷ reads OnChip 0 0 ∷ asks_length OnChip 0 0 ∷ [])
      (packet OnChip 0 0 ∷ says_done ∷ shows (1 ∷ 2 ∷ 255 ∷ []) ∷ long 3 ∷ [])
  pub fills_all : Answering (takes 3 ∷ fills OnChip 0 0 (1 ∷ 2 ∷ 3 ∷ []) ∷ reads OnChip 0 0 ∷ [])
      (packet OnChip 0 0 ∷ says_done ∷ shows (1 ∷ 2 ∷ 3 ∷ []) ∷ [])
  pub fills_one_more : Unchanged with_packets (fills OnChip 0 0 (1 ∷ 2 ∷ 3 ∷ 4 ∷ []) ∷ fills External 0 0 (replicate 10 1) ∷ reads OnChip 0 0 ∷ [])
      (refuses 17 ∷ refuses 17 ∷ shows (255 ∷ 255 ∷ 255 ∷ []) ∷ [])
  pub fills_none : Unchanged with_packets (fills OnChip 0 0 [] ∷ fills External 0 0 [] ∷ reads OnChip 0 0 ∷ [])
      (says_done ∷ says_done ∷ shows (255 ∷ 255 ∷ 255 ∷ []) ∷ [])
  pub fills_twice : Answering (takes 3 ∷ fills OnChip 0 0 (1 ∷ 2 ∷ 3 ∷ []) ∷ fills OnChip 0 0 (4 ∷ []) ∷ reads OnChip 0 0 ∷ [])
      (packet OnChip 0 0 ∷ says_done ∷ says_done ∷ shows (4 ∷ 2 ∷ 3 ∷ []) ∷ [])
  -- "just the packet's own bytes inside the store", "Bytes outside the granted span .. stay put": where it does not begin at 0, in either store
  pub fills_in_place : LeavingBytes (takes 2 ∷ takes 3 ∷ fills OnChip 2 1 (1 ∷ 2 ∷ []) ∷ []) (255 ∷ 255 ∷ 1 ∷ 2 ∷ 255 ∷ 7 ∷ 7 ∷ 7 ∷ []) (replicate 20 7)
  pub fills_in_place_external : LeavingBytes (takes 9 ∷ takes 9 ∷ fills External 9 1 (1 ∷ 2 ∷ []) ∷ [])
      (replicate 8 7) (replicate 9 255 ++ (1 ∷ 2 ∷ replicate 7 255 ++ (7 ∷ 7 ∷ [])))
  -- the span is what holds, not what the store has behind it
  pub span_holds : Answering (takes 2 ∷ takes 3 ∷ fills OnChip 2 1 (1 ∷ 2 ∷ 3 ∷ 4 ∷ []) ∷ fills OnChip 2 1 (1 ∷ 2 ∷ 3 ∷ []) ∷ reads OnChip 0 0 ∷ [])
      (packet OnChip 0 0 ∷ packet OnChip 2 1 ∷ refuses 17 ∷ says_done ∷ shows (255 ∷ 255 ∷ []) ∷ [])
  -- "17, after all else": 5, 8, 6 and 2 come before it
  pub after_all_else : Unchanged with_packets (fills OnChip 0 1 (replicate 9 1) ∷ fills OnChip 1 0 (replicate 9 1) ∷ []) (refuses 5 ∷ refuses 8 ∷ [])
  pub after_6 : Unchanged (on_chip_so (counting 1) with_packets) (fills OnChip 0 0 (replicate 9 1) ∷ fills OnChip 0 0 [] ∷ []) (refuses 6 ∷ refuses 6 ∷ [])
  pub after_2 : Unchanged (on_chip_so (lending 31 4) with_packets) (fills OnChip 0 0 (replicate 9 1) ∷ fills OnChip 0 0 [] ∷ [])
      (refuses 2 ∷ refuses 2 ∷ [])
  -- ---- "A read hands back the part of whichever store holds the packet": two packets of one offset and record, told apart by their store
  pub reads_either : Answering
      (takes 3 ∷ takes 9 ∷ fills OnChip 0 0 (1 ∷ 2 ∷ 3 ∷ []) ∷ fills External 0 0 (4 ∷ 5 ∷ []) ∷ reads OnChip 0 0 ∷ reads External 0 0
      ∷ asks_length OnChip 0 0 ∷ asks_length External 0 0
      ∷ gives_back OnChip 0 0 ∷ reads OnChip 0 0 ∷ reads External 0 0 ∷ asks_length OnChip 0 0 ∷ asks_length External 0 0 ∷ [])
      (packet OnChip 0 0 ∷ packet External 0 0 ∷ says_done ∷ says_done ∷ shows (1 ∷ 2 ∷ 3 ∷ []) ∷ shows (4 ∷ 5 ∷ replicate 7 255)
      ∷ long 3 ∷ long 9
      ∷ says_done ∷ shows [] ∷ shows (4 ∷ 5 ∷ replicate 7 255) ∷ refuses 5 ∷ long 9 ∷ [])
  pub reads_amid : Answering (takes 9 ∷ takes 9 ∷ fills External 9 1 (1 ∷ 2 ∷ []) ∷ reads External 9 1 ∷ reads External 0 0 ∷ [])
      (packet External 0 0 ∷ packet External 9 1 ∷ says_done ∷ shows (1 ∷ 2 ∷ replicate 7 255) ∷ shows (replicate 9 255) ∷ [])
  -- a read and the questions change nothing
  pub only_asked : Unchanged with_packets (reads OnChip 0 0 ∷ asks_length External 0 0 ∷ asks_report OnChip ∷ asks_report External ∷ Auditing OnChip 4 ∷ [])
      (shows (255 ∷ 255 ∷ 255 ∷ []) ∷ long 9 ∷ reports 5 5 ∷ reports 11 11 ∷ says_done ∷ [])
  -- "asking the length tells that from an empty packet": one of 0 bytes is read empty, as after a refusal, and its length is 0
  pub of_no_bytes : Answering
      (takes 0 ∷ reads OnChip 0 0 ∷ asks_length OnChip 0 0 ∷ fills OnChip 0 0 [] ∷ fills OnChip 0 0 (1 ∷ []) ∷ gives_back OnChip 0 0
      ∷ reads OnChip 0 0 ∷ asks_length OnChip 0 0 ∷ [])
      (packet OnChip 0 0 ∷ shows [] ∷ long 0 ∷ says_done ∷ refuses 17 ∷ says_done ∷ shows [] ∷ refuses 5 ∷ [])
  pub of_no_bytes_left : LeavingBytes (takes 0 ∷ fills OnChip 0 0 [] ∷ fills OnChip 0 0 (1 ∷ []) ∷ gives_back OnChip 0 0 ∷ [])
      (replicate 8 7) (replicate 20 7)
  -- "and an empty part on a refusal": a packet handed back is 5 to each call; its bytes stay in the store, and none is shown
  pub handed_back_lem : Answering
      (takes 3 ∷ fills OnChip 0 0 (1 ∷ 2 ∷ 3 ∷ []) ∷ gives_back OnChip 0 0 ∷ reads OnChip 0 0 ∷ asks_length OnChip 0 0 ∷ fills OnChip 0 0 (1 ∷ [])
      ∷ fills OnChip 0 0 (1 ∷ 2 ∷ 3 ∷ 4 ∷ []) ∷ gives_back OnChip 0 0 ∷ [])
      (packet OnChip 0 0 ∷ says_done ∷ says_done ∷ shows [] ∷ refuses 5 ∷ refuses 5 ∷ refuses 5 ∷ refuses 5 ∷ [])
  pub handed_back_bytes : LeavingBytes (takes 3 ∷ fills OnChip 0 0 (1 ∷ 2 ∷ 3 ∷ []) ∷ gives_back OnChip 0 0 ∷ fills OnChip 0 0 (4 ∷ []) ∷ [])
      (1 ∷ 2 ∷ 3 ∷ 7 ∷ 7 ∷ 7 ∷ 7 ∷ 7 ∷ []) (replicate 20 7)
  -- "so that no old reading shows": the pair granted again is the new packet; what was filled before lies behind it
  pub granted_again : Answering
      (takes 3 ∷ fills OnChip 0 0 (1 ∷ 2 ∷ 3 ∷ []) ∷ gives_back OnChip 0 0 ∷ takes 2 ∷ reads OnChip 0 0 ∷ asks_length OnChip 0 0 ∷ [])
      (packet OnChip 0 0 ∷ says_done ∷ says_done ∷ packet OnChip 0 0 ∷ shows (255 ∷ 255 ∷ []) ∷ long 2 ∷ [])
  pub granted_again_bytes : LeavingBytes (takes 3 ∷ fills OnChip 0 0 (1 ∷ 2 ∷ 3 ∷ []) ∷ gives_back OnChip 0 0 ∷ takes 2 ∷ [])
      (255 ∷ 255 ∷ 3 ∷ 7 ∷ 7 ∷ 7 ∷ 7 ∷ 7 ∷ []) (replicate 20 7)
  -- request 3's "the record is live but starts elsewhere", of each store: 8 to each call, and 5 for a record that is not live there or is none
  pub elsewhere : Unchanged (left (takes 2 ∷ takes 3 ∷ takes 9 ∷ []) fresh)
      (gives_back OnChip 0 1 ∷ asks_length OnChip 0 1 ∷ fills OnChip 0 1 (1 ∷ []) ∷ reads OnChip 0 1 ∷ asks_length OnChip 2 1
      ∷ gives_back External 2 0 ∷ asks_length External 2 0 ∷ fills External 2 0 (1 ∷ []) ∷ reads External 2 0 ∷ asks_length External 0 0
      ∷ gives_back External 2 1 ∷ asks_length OnChip 0 4 ∷ [])
      (refuses 8 ∷ refuses 8 ∷ refuses 8 ∷ shows [] ∷ long 3 ∷ refuses 8 ∷ refuses 8 ∷ refuses 8 ∷ shows [] ∷ long 9 ∷ refuses 5 ∷ refuses 5 ∷ [])
  -- ---- "If either store is shorter in bytes than its allocator's size, the call is refused as 9, before anything else": by one byte, to every call,
  -- whichever store it names; a read shows nothing, and all stays
  pub on_chip_short : Unchanged (on_chip_so (having 7) with_packets) every_call (all_refused 9)
  pub external_short : Unchanged (external_so (having 19) with_packets) every_call (all_refused 9)
  pub both_empty : Unchanged (on_chip_so (having 0) (external_so (having 0) with_packets)) every_call (all_refused 9)
  -- before 6 and 2 of either store
  pub nine_before_6 : Unchanged (on_chip_so (λ k. counting 1 (having 7 k)) with_packets) every_call (all_refused 9)
  pub nine_before_2 : Unchanged (on_chip_so (λ k. lending 0 0 (having 7 k)) with_packets) every_call (all_refused 9)
  pub nine_before_other's_6 : Unchanged (on_chip_so (counting 1) (external_so (having 19) with_packets)) every_call (all_refused 9)
  pub nine_before_other's_2 : Unchanged (external_so (lending 0 0) (on_chip_so (having 7) with_packets)) every_call (all_refused 9)
  -- as long as it, or longer, is not shorter; and a store that is not there has size 0 and needs no byte: 6
  pub long_enough : From (on_chip_so (having 9) (external_so (having 21) fresh)) (takes 3 ∷ takes 9 ∷ reads OnChip 0 0 ∷ takes 6 ∷ [])
      (packet OnChip 0 0 ∷ packet External 0 0 ∷ shows (255 ∷ 255 ∷ 255 ∷ []) ∷ packet External 9 1 ∷ [])
  pub not_there : Unchanged nowhere every_call (all_refused 6)
  pub not_there_nor_bytes : Unchanged (on_chip_so (having 0) (external_so (having 0) nowhere)) every_call (all_refused 6)
  -- ---- a spoiled length: 6 where it would pass the size, to the length and to each fill, before 17, and nothing is read. The second packet begins at 2
  pub passes_the_size : Unchanged (on_chip_so (as_long 1 7) (left (takes 2 ∷ takes 3 ∷ []) fresh))
      (asks_length OnChip 2 1 ∷ fills OnChip 2 1 [] ∷ fills OnChip 2 1 (1 ∷ []) ∷ fills OnChip 2 1 (replicate 9 1) ∷ reads OnChip 2 1
      ∷ asks_length OnChip 0 1 ∷ asks_length OnChip 0 0 ∷ [])
      (refuses 6 ∷ refuses 6 ∷ refuses 6 ∷ refuses 6 ∷ shows [] ∷ refuses 8 ∷ long 2 ∷ [])
  pub passes_the_size_external : Unchanged (external_so (as_long 0 21) with_packets)
      (asks_length External 0 0 ∷ fills External 0 0 [] ∷ fills External 0 0 (replicate 22 1) ∷ reads External 0 0 ∷ asks_length OnChip 0 0 ∷ [])
      (refuses 6 ∷ refuses 6 ∷ refuses 6 ∷ shows [] ∷ long 3 ∷ [])
  -- one that ends with the size does not; and it is the size that counts, not how many bytes there are
  pub ends_with_the_size : From (on_chip_so (as_long 1 6) (left (takes 2 ∷ takes 3 ∷ []) fresh))
      (asks_length OnChip 2 1 ∷ reads OnChip 2 1 ∷ fills OnChip 2 1 (replicate 7 1) ∷ fills OnChip 2 1 (replicate 6 1) ∷ reads OnChip 2 1 ∷ [])
      (long 6 ∷ shows (255 ∷ 255 ∷ 255 ∷ 7 ∷ 7 ∷ 7 ∷ []) ∷ refuses 17 ∷ says_done ∷ shows (replicate 6 1) ∷ [])
  pub the_size_counts : Unchanged (on_chip_so (λ k. having 9 (as_long 1 7 k)) (left (takes 2 ∷ takes 3 ∷ []) fresh))
      (asks_length OnChip 2 1 ∷ fills OnChip 2 1 (1 ∷ []) ∷ reads OnChip 2 1 ∷ []) (refuses 6 ∷ refuses 6 ∷ shows [] ∷ [])
  -- ---- setup of both, with packets out of both: refused by a store's 1 or 2, neither store is there, whichever it was; the on-chip store's number first
  pub both_refused_external_1 : From with_packets (SettingUpBoth 8 4 20 1 ∷ every_call) (refuses 1 ∷ all_refused 6)
  pub both_refused_on_chip_1 : From with_packets (SettingUpBoth 8 1 20 4 ∷ every_call) (refuses 1 ∷ all_refused 6)
  pub both_refused_external_2 : From with_packets (SettingUpBoth 8 4 20 5 ∷ every_call) (refuses 2 ∷ all_refused 6)
  pub both_refused_on_chip_2 : From with_packets (SettingUpBoth 8 5 20 4 ∷ every_call) (refuses 2 ∷ all_refused 6)
  pub both_order : From with_packets (SettingUpBoth 8 5 20 1 ∷ SettingUpBoth 8 1 20 5 ∷ SettingUpBoth 8 1048577 20 5 ∷ [])
      (refuses 2 ∷ refuses 1 ∷ refuses 1 ∷ [])
  -- document 01's "refused, it returns one of zeros": the scalars of both; arrays, tables and bytes stay
  pub both_zeros : head_of (left (SettingUpBoth 8 4 20 1 ∷ []) with_packets).on_chip ++ head_of (left (SettingUpBoth 8 4 20 1 ∷ []) with_packets).external
      ≡ replicate 10 0
  pub both_rest : (rest_of (left (SettingUpBoth 8 4 20 1 ∷ []) with_packets).on_chip ≡ rest_of with_packets.on_chip)
      × (rest_of (left (SettingUpBoth 8 4 20 1 ∷ []) with_packets).external ≡ rest_of with_packets.external)
  -- 9 of either size, before each store's own number, and neither store is there
  pub both_nine : From with_packets (SettingUpBoth 9 4 20 4 ∷ every_call) (refuses 9 ∷ all_refused 6)
  pub both_nine_external : From with_packets (SettingUpBoth 8 4 21 4 ∷ every_call) (refuses 9 ∷ all_refused 6)
  pub both_nine_first : From with_packets (SettingUpBoth 9 1 20 4 ∷ SettingUpBoth 8 1 21 4 ∷ SettingUpBoth 9 4 20 5 ∷ [])
      (refuses 9 ∷ refuses 9 ∷ refuses 9 ∷ [])
  -- it is the size asked for that the bytes are held to, not the size of the stores that were; accepted, no packet is out, and no byte changes
  pub both_again : From (on_chip_so (having 7) with_packets)
      (SettingUpBoth 7 4 19 4 ∷ asks_report OnChip ∷ asks_report External ∷ asks_length OnChip 0 0 ∷ reads External 0 0 ∷ takes 7 ∷ [])
      (says_done ∷ reports 7 7 ∷ reports 19 18 ∷ refuses 5 ∷ shows [] ∷ packet OnChip 0 0 ∷ [])
  pub both_again_bytes : LeavingBytes (takes 3 ∷ takes 9 ∷ SettingUpBoth 8 4 20 4 ∷ [])
      (255 ∷ 255 ∷ 255 ∷ 7 ∷ 7 ∷ 7 ∷ 7 ∷ 7 ∷ []) (replicate 9 255 ++ replicate 11 7)
  -- stores of 0 bytes each hold one packet of 0 bytes
  pub both_of_0 : From nowhere (SettingUpBoth 0 4 0 4 ∷ takes 0 ∷ takes 0 ∷ takes 0 ∷ takes 1 ∷ [])
      (says_done ∷ packet OnChip 0 0 ∷ packet External 0 0 ∷ refuses 4 ∷ refuses 4 ∷ [])
  -- ---- setup of one store: the other may not be there yet. Where the on-chip store is not, a take is 6, and "on 3 or 4 only" leaves it at that
  pub on_chip_alone : From nowhere
      (SettingUp OnChip 8 4 ∷ takes 3 ∷ takes 9 ∷ SettingUp External 20 4 ∷ takes 9 ∷ reads OnChip 0 0 ∷ [])
      (says_done ∷ packet OnChip 0 0 ∷ refuses 6 ∷ says_done ∷ packet External 0 0 ∷ shows (255 ∷ 255 ∷ 255 ∷ []) ∷ [])
  pub external_alone : From nowhere (SettingUp External 20 4 ∷ takes 3 ∷ asks_report External ∷ asks_report OnChip ∷ SettingUp OnChip 8 4 ∷ takes 3 ∷ [])
      (says_done ∷ refuses 6 ∷ reports 20 20 ∷ refuses 6 ∷ says_done ∷ packet OnChip 0 0 ∷ [])
  -- one set up after the other is as both set up
  pub one_by_one : left (SettingUp External 20 4 ∷ SettingUp OnChip 8 4 ∷ []) nowhere ≡ fresh
  -- set up again, its packets are out no more, and the other store's are
  pub on_chip_again : From with_packets
      (SettingUp OnChip 8 4 ∷ reads OnChip 0 0 ∷ asks_length OnChip 0 0 ∷ reads External 0 0 ∷ asks_length External 0 0 ∷ takes 3 ∷ [])
      (says_done ∷ shows [] ∷ refuses 5 ∷ shows (replicate 9 255) ∷ long 9 ∷ packet OnChip 0 0 ∷ [])
  pub external_again : From with_packets
      (SettingUp External 20 4 ∷ reads External 0 0 ∷ asks_length External 0 0 ∷ reads OnChip 0 0 ∷ asks_length OnChip 0 0 ∷ takes 9 ∷ [])
      (says_done ∷ shows [] ∷ refuses 5 ∷ shows (255 ∷ 255 ∷ 255 ∷ []) ∷ long 3 ∷ packet External 0 0 ∷ [])
  -- refused by its own 1 or 2 it is not there, and the other one stays
  pub on_chip_refused : From with_packets
      (SettingUp OnChip 8 1 ∷ asks_length OnChip 0 0 ∷ reads OnChip 0 0 ∷ asks_length External 0 0 ∷ takes 1 ∷ gives_back External 0 0 ∷ [])
      (refuses 1 ∷ refuses 6 ∷ shows [] ∷ long 9 ∷ refuses 6 ∷ says_done ∷ [])
  pub external_refused : From with_packets
      (SettingUp External 20 5 ∷ asks_length External 0 0 ∷ reads External 0 0 ∷ asks_length OnChip 0 0 ∷ takes 1 ∷ takes 9 ∷ [])
      (refuses 2 ∷ refuses 6 ∷ shows [] ∷ long 3 ∷ packet OnChip 3 1 ∷ refuses 6 ∷ [])
  -- 9 for the size asked for, before 1 and 2, and for the other store's; likewise
  pub one_nine : From with_packets (SettingUp OnChip 9 4 ∷ asks_length OnChip 0 0 ∷ asks_length External 0 0 ∷ [])
      (refuses 9 ∷ refuses 6 ∷ long 9 ∷ [])
  pub one_nine_external : From with_packets (SettingUp External 21 4 ∷ asks_length External 0 0 ∷ asks_length OnChip 0 0 ∷ [])
      (refuses 9 ∷ refuses 6 ∷ long 3 ∷ [])
  pub one_nine_first : From with_packets (SettingUp OnChip 9 1 ∷ SettingUp OnChip 9 5 ∷ SettingUp External 21 1 ∷ []) (refuses 9 ∷ refuses 9 ∷ refuses 9 ∷ [])
  pub other's_nine : From (external_so (having 19) with_packets)
      (SettingUp OnChip 8 4 ∷ SettingUp OnChip 8 1 ∷ SettingUp External 19 4 ∷ SettingUp OnChip 8 4 ∷ takes 3 ∷ takes 9 ∷ [])
      (refuses 9 ∷ refuses 9 ∷ says_done ∷ says_done ∷ packet OnChip 0 0 ∷ packet External 0 0 ∷ [])
  pub other's_nine_on_chip : From (on_chip_so (having 7) with_packets)
      (SettingUp External 20 4 ∷ SettingUp External 20 1 ∷ SettingUp OnChip 7 4 ∷ SettingUp External 20 4 ∷ takes 3 ∷ takes 9 ∷ [])
      (refuses 9 ∷ refuses 9 ∷ says_done ∷ says_done ∷ packet OnChip 0 0 ∷ packet External 0 0 ∷ [])
  pub one_bytes : LeavingBytes (takes 3 ∷ takes 9 ∷ SettingUp OnChip 8 4 ∷ SettingUp External 20 1 ∷ [])
      (255 ∷ 255 ∷ 255 ∷ 7 ∷ 7 ∷ 7 ∷ 7 ∷ 7 ∷ []) (replicate 9 255 ++ replicate 11 7)
  -- ---- the audit of the store that is named: 6 where its words are not sound, 2 for its scratch, whatever the other store is
  pub audited : From (on_chip_so (as_long 0 4) with_packets) (Auditing OnChip 4 ∷ Auditing External 4 ∷ Auditing External 3 ∷ [])
      (refuses 6 ∷ says_done ∷ refuses 2 ∷ [])
  -- refused as 9 it leaves its scratch as it came; otherwise 0 below the count
  pub scratch_kept : audit_in edition32 OnChip (on_chip_so (having 7) with_packets) (replicate 5 7) ≡ (refused 9, replicate 5 7)
  pub scratch_cleared : audit_in edition32 OnChip with_packets (replicate 5 7) ≡ (done, 0 ∷ 0 ∷ 0 ∷ 0 ∷ 7 ∷ [])
  -- ---- "With two stores the refused first try counts as a refused call": which calls are made below, on the chip and outside it
  pub made_on_4 : Makes (Take record { size = 9 }) fresh (once (ledger.takes 9) (refused 4)) (once (ledger.takes 9) (granted 0 0))
  pub made_on_3 : Makes (Take record { size = 1 }) (left (takes 1 ∷ takes 1 ∷ []) fresh) (once (ledger.takes 1) (refused 3))
      (once (ledger.takes 1) (granted 0 0))
  pub made_on_chip : Makes (Take record { size = 8 }) fresh (once (ledger.takes 8) (granted 0 0)) []
  pub made_on_6 : Makes (Take record { size = 9 }) nowhere (once (ledger.takes 9) (refused 6)) []
  pub made_on_9 : Makes (Take record { size = 9 }) (external_so (having 19) fresh) [] []
  -- of every other call one, on the store that is named, with its answer there; a fill and a read ask for the length
  pub made_by_hand_back : Makes (HandBack External (span_of 0 0)) with_packets [] (once (ledger.gives_back 0 0) done)
  pub made_by_fill : Makes (Fill OnChip (span_of 0 0) (replicate 4 1)) with_packets (once (ledger.asks_size 0 0) (length_is 3)) []
  pub made_by_read : Makes (Read External (span_of 1 0)) with_packets [] (once (ledger.asks_size 1 0) (refused 8))
  pub made_by_length : Makes (LengthOf OnChip (span_of 0 1)) with_packets (once (ledger.asks_size 0 1) (refused 5)) []
  pub made_by_report : Makes (ReportOf External) with_packets [] (once (ledger.Ask ledger.Report) (reported 11 11))
  -- ---- what is in a packet by the history alone, as it was read above. "fewer fill its front"; a fill that is refused is none, nor is one of another
  -- packet; a packet of the other store is not out of this one
  pub shelved_front : shelved OnChip 0 0 (takes 3 ∷ fills OnChip 0 0 (1 ∷ 2 ∷ []) ∷ []) ≡ some (1 ∷ 2 ∷ 255 ∷ [])
  pub shelved_17 : shelved OnChip 0 0 (takes 3 ∷ fills OnChip 0 0 (1 ∷ 2 ∷ 3 ∷ 4 ∷ []) ∷ []) ≡ some (255 ∷ 255 ∷ 255 ∷ [])
  pub shelved_elsewhere : shelved OnChip 0 0 (takes 3 ∷ takes 9 ∷ fills External 0 0 (1 ∷ []) ∷ fills OnChip 1 0 (1 ∷ []) ∷ []) ≡ some (255 ∷ 255 ∷ 255 ∷ [])
  pub shelved_outside : shelved External 0 0 (takes 3 ∷ takes 9 ∷ fills External 0 0 (1 ∷ []) ∷ []) ≡ some (1 ∷ replicate 8 255)
  pub shelved_other's : shelved External 0 0 (takes 3 ∷ []) ≡ none
  -- it is named by its offset and its record, both
  pub shelved_pair : shelved OnChip 1 0 (takes 3 ∷ []) ≡ none
  pub shelved_empty : shelved OnChip 0 0 (takes 0 ∷ takes 2 ∷ fills OnChip 0 1 (1 ∷ []) ∷ []) ≡ some []
  pub shelved_beside : shelved OnChip 0 1 (takes 0 ∷ takes 2 ∷ fills OnChip 0 1 (1 ∷ []) ∷ gives_back OnChip 0 0 ∷ []) ≡ some (1 ∷ 255 ∷ [])
  -- handed back, or its store set up, accepted or refused, it is out no more; otherwise it stays out
  pub shelved_back : shelved OnChip 0 0 (takes 3 ∷ gives_back OnChip 0 0 ∷ []) ≡ none
  pub shelved_again : shelved OnChip 0 0 (takes 3 ∷ fills OnChip 0 0 (1 ∷ []) ∷ gives_back OnChip 0 0 ∷ takes 2 ∷ []) ≡ some (255 ∷ 255 ∷ [])
  pub shelved_anew : shelved OnChip 0 0 (takes 3 ∷ SettingUp OnChip 8 4 ∷ []) ≡ none
  pub shelved_no_store : shelved OnChip 0 0 (takes 3 ∷ SettingUp OnChip 8 1 ∷ []) ≡ none
  pub shelved_neither : shelved OnChip 0 0 (takes 3 ∷ SettingUpBoth 8 4 20 1 ∷ []) ≡ none
  pub shelved_still : shelved OnChip 0 0
      (takes 3 ∷ takes 9 ∷ takes 99 ∷ gives_back External 0 0 ∷ gives_back OnChip 1 0 ∷ SettingUp External 20 4 ∷ SettingUp External 20 1
      ∷ Auditing OnChip 4 ∷ [])
      ≡ some (255 ∷ 255 ∷ 255 ∷ [])
  -- a hand-back that is refused, as it is where 9 is met, strikes none
  pub shelved_refused : contents (span_of 0 0) (shelf OnChip (did (takes 3) (packet OnChip 0 0) ∷ did (gives_back OnChip 0 0) (refuses 9) ∷ []) [])
      ≡ some (255 ∷ 255 ∷ 255 ∷ [])
  -- the fills alone, over what was in it: one of the other store, one refused and one of another span are none
  pub filled_since_lem : filled_since OnChip (span_of 0 0)
      (history (fills OnChip 0 0 (1 ∷ 2 ∷ []) ∷ fills External 0 0 (9 ∷ []) ∷ fills OnChip 0 0 (replicate 4 9) ∷ fills OnChip 3 1 (9 ∷ [])
      ∷ fills OnChip 0 0 (4 ∷ []) ∷ []) (left (takes 3 ∷ takes 2 ∷ takes 9 ∷ []) fresh)) (255 ∷ 255 ∷ 255 ∷ [])
      ≡ 4 ∷ 2 ∷ 255 ∷ []
  -- ---- "Demand 3 reads for each store's spans": a stretch, with each call in it that may stand there; each store's own packets go back last granted
  -- first, whichever of the two stores comes first
  pub a_stretch : PacketStretch [] []
      (history (takes 1 ∷ takes 9 ∷ takes 2 ∷ takes 99 ∷ fills OnChip 1 1 (1 ∷ []) ∷ fills OnChip 1 1 (1 ∷ 2 ∷ 3 ∷ []) ∷ reads External 0 0
      ∷ asks_length OnChip 0 0 ∷ asks_report External ∷ Auditing OnChip 4
      ∷ gives_back OnChip 1 1 ∷ gives_back OnChip 0 0 ∷ gives_back External 0 0 ∷ gives_back External 0 0 ∷ []) fresh)
  -- "not for bytes": of a read its length is told
  pub told_lengths : all_told (history (takes 3 ∷ reads OnChip 0 0 ∷ asks_length OnChip 0 0 ∷ reads OnChip 0 1 ∷ []) fresh)
      ≡ packet OnChip 0 0 ∷ long 3 ∷ long 3 ∷ long 0 ∷ []
