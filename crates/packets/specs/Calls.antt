-- The calls over two stores, on words and bytes. Assumes nothing.
use Rattle.std.specs.Prelude.{ℕ, zero, suc, Bool, cond, ◌||◌, eqb, ltb, length}
use mathlib.Core.List.{List, []}
use Rattle.ledger.specs.Ledger.{Answer, granted, done, length_is, reported, classes, refused}
use Rattle.ledger.specs.Calls.{Request, Token, Report, Ask}
use Rattle.tables.specs.Words.{Edition}
use Rattle.tables.specs.Gate.{setup_gate}
use Rattle.tables.specs.Calls.{answer_words}
use Rattle.audit_words.specs.Audit.{audit_words}
use Rattle.packets.specs.declared.Store.{Store}
use Rattle.packets.specs.declared.Store.TheVariants.{OnChip, External}
use Rattle.packets.specs.Stores.{Kept, Two, two, at, put, other}
use Rattle.packets.specs.OneStore.{take_in, hand_back_in, length_in, fill_in, read_in, no_store_yet, set_up_in}

-- ---- what is asked, setups and audits apart. A packet is named by which store holds it, and by its span there
pub data PacketCall : Type 0 where
  Take : Request → PacketCall
  HandBack : Store → Token → PacketCall
  Fill : Store → Token → List ℕ → PacketCall
  Read : Store → Token → PacketCall
  LengthOf : Store → Token → PacketCall
  ReportOf : Store → PacketCall

-- what is answered: a packet, with the store that holds it; the bytes that a read shows; or what a call of one store answers
pub data Answered : Type 0 where
  packet : Store → (offset number : ℕ) → Answered
  shows : List ℕ → Answered
  plain : Answer → Answered

-- a call of one store, as it answers and whatever it leaves
abbrev pub plainly : {Left : Type 0} → Answer × Left → Answered × Left
plainly outcome = (plain outcome.0, outcome.1)

-- ---- "If either store is shorter in bytes than its allocator's size, the call is refused as 9, before anything else"
-- a store, with this as its allocator's size
abbrev pub shorter : ℕ → Kept → Bool
shorter size k = ltb (length k.bytes) size

abbrev pub either_shorter : (size other-size : ℕ) → Two → Bool
either_shorter size other-size t = shorter size t.on_chip || shorter other-size t.external

abbrev pub too_short : Two → Bool
too_short t = either_shorter t.on_chip.words.size t.external.words.size t

abbrev pub nine : Bool → Two → Answered × Two → Answered × Two
nine short left outcome = cond short (plain (refused 9), left) outcome

-- ---- "A take tries on-chip first and, on 3 or 4 only, external; the answer says which, or gives the refusal of the last store tried."
abbrev pub goes_on : ℕ → Bool
goes_on k = eqb k 3 || eqb k 4

-- what the take on the external store comes to
abbrev pub from_external : Answer → Answered
from_external (granted o r) = packet External o r
from_external done = plain done
from_external (length_is n) = plain (length_is n)
from_external (reported n m) = plain (reported n m)
from_external (classes rows) = plain (classes rows)
from_external (refused k) = plain (refused k)

abbrev pub externally : Answer × Kept → Answered × Kept
externally outcome = (from_external outcome.0, outcome.1)

-- what the take on the on-chip store comes to: it left that store so; the other one is as it was, and what a take there would come to is beside it
abbrev pub after_first : Answer → (first beside : Kept) → Answer × Kept → Answered × Two
after_first (granted o r) first beside second = (packet OnChip o r, two first beside)
after_first done first beside second = (plain done, two first beside)
after_first (length_is n) first beside second = (plain (length_is n), two first beside)
after_first (reported n m) first beside second = (plain (reported n m), two first beside)
after_first (classes rows) first beside second = (plain (classes rows), two first beside)
after_first (refused k) first beside second =
    cond (goes_on k) ((externally second).0, two first (externally second).1) (plain (refused k), two first beside)

-- a call on the store that is named
abbrev pub on : Store → Two → Answer × Kept → Answered × Two
on s t outcome = (plain outcome.0, put s outcome.1 t)

-- no store is left
abbrev pub neither : Two → Two
neither t = two (no_store_yet t.on_chip) (no_store_yet t.external)

-- a number but 0 refuses
abbrev pub refused_by : ℕ → Two → Answered × Two → Answered × Two
refused_by zero left outcome = outcome
refused_by (suc k) left outcome = (plain (refused (suc k)), left)

module _ (E : Edition) where
  unfoldable pub take_from : Request → Two → Answered × Two
  unfolding take_in
  take_from asked t =
      let first = take_in E asked t.on_chip in
      after_first first.0 first.1 t.external (take_in E asked t.external)

  -- ---- every call: its answer, and both stores after it
  unfoldable pub packet_words : PacketCall → Two → Answered × Two
  unfolding take_from hand_back_in fill_in read_in length_in
  packet_words (Take asked) t = nine (too_short t) t (take_from asked t)
  packet_words (HandBack s span) t = nine (too_short t) t (on s t (hand_back_in E span (at s t)))
  packet_words (Fill s span new) t = nine (too_short t) t (on s t (fill_in E span new (at s t)))
  packet_words (Read s span) t = (shows (cond (too_short t) [] (read_in E span (at s t))), t)
  packet_words (LengthOf s span) t = nine (too_short t) t (plain (length_in E span (at s t)), t)
  packet_words (ReportOf s) t = nine (too_short t) t (plain (answer_words E (Ask Report) (at s t).words).0, t)

  -- ---- setup of one store: the size that is asked for is what its bytes are held to. Refused, there is no store there
  unfoldable pub set_up_words : Store → (size count : ℕ) → Two → Answered × Two
  unfolding set_up_in
  set_up_words s size count t =
      nine (shorter size (at s t) || shorter (at (other s) t).words.size (at (other s) t)) (put s (no_store_yet (at s t)) t)
      (on s t (set_up_in E size count (at s t)))

  -- setup of both: refused by the on-chip store's number, then by the external one's; refused, neither store is there, and accepted both are
  abbrev pub gate_in : (size count : ℕ) → Kept → ℕ
  gate_in size count k = setup_gate E size count (length k.words.nodes) (length k.words.pile)

  unfoldable pub set_up_both_words : (size count other-size other-count : ℕ) → Two → Answered × Two
  unfolding set_up_in
  set_up_both_words size count other-size other-count t =
      nine (either_shorter size other-size t) (neither t)
      (refused_by (gate_in size count t.on_chip) (neither t)
      (refused_by (gate_in other-size other-count t.external) (neither t)
      (plain done, two (set_up_in E size count t.on_chip).1 (set_up_in E other-size other-count t.external).1)))

  -- ---- the audit of one store, and the scratch that it leaves
  unfoldable pub audit_in : Store → Two → List ℕ → Answer × List ℕ
  audit_in s t scratch = cond (too_short t) (refused 9, scratch) (audit_words E (at s t).words scratch)
