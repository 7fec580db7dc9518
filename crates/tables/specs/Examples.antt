-- Document 01's run on words, a small store shown whole, rows that catch models which are nearly right, and spoiled words.
-- All are of the base's edition, on tables that held sevens; proofs/Answers.antt computes them. Assumes nothing.
use Rattle.std.specs.Prelude.{◌≡◌, ◌↔◌, ◌⊎◌, ℕ, ◌^◌, ◌≤◌, ◌<◌, List, [], ◌∷◌, map, length, set, replicate}
use Rattle.ledger.specs.Ledger.{Answer, granted, done, length_is, reported, refused}
use Rattle.small_float.specs.Class.{greatest_served}
use Rattle.ledger.specs.Calls.{Request, Token, Question, SizeOf, Report, FullReport, Fill, Call, Take, HandBack, Reset, Ask}
use Rattle.ledger.specs.Calls.{takes, gives_back, asks_size, answers, end}
use Rattle.ledger.specs.RunToFollow.{the_calls, the_answers}
use Rattle.tables.specs.Layout.{data_offset, data_size, bin_next, put, nodes_needed, pile_needed}
use Rattle.tables.specs.Words.{Words, Edition, with_nodes, with_lists, with_total}
use Rattle.tables.specs.Gate.{gate, setup_gate}
use Rattle.tables.specs.Setup.{Lent, tables_alone, setup_words}
use Rattle.tables.specs.Calls.{edition32, behind, answer_words}
use Rattle.tables.specs.Room.{Room}
use Rattle.tables.specs.Claims.{OneOf, may_give_behind, may_give}

unfoldable pub desk : (size count : ℕ) → Words
unfolding setup_words
desk size count = (setup_words edition32 size count (tables_alone (replicate (nodes_needed count) 7) (replicate (pile_needed count) 7))).1

-- ---- "Size 100, count 6. Report 100, 96." The ledger's rows, each call followed by a report
unfoldable pub reporting : List Call → List Call
reporting [] = []
reporting (c ∷ cs) = c ∷ Ask Report ∷ reporting cs

unfoldable pub with_reports : List (Answer × (ℕ × ℕ)) → List Answer
with_reports [] = []
with_reports (row ∷ rows) = row.0 ∷ reported row.1.0 row.1.1 ∷ with_reports rows

pub record RunOnWords : Type 0 where
  pub the_run : answers (answer_words edition32) (Ask Report ∷ reporting the_calls) (desk 100 6) ≡ reported 100 96 ∷ with_reports the_answers
  -- "The one region now belongs to record 2"; after a reset it is record 0's again
  pub then_reset : answers (answer_words edition32) (takes 5 ∷ asks_size 0 2 ∷ Reset ∷ asks_size 0 2 ∷ takes 5 ∷ Ask Report ∷ [])
      (end (answer_words edition32) the_calls (desk 100 6))
      ≡ granted 0 2 ∷ length_is 5 ∷ done ∷ refused 5 ∷ granted 0 0 ∷ reported 95 88 ∷ []

-- ---- the words of that store after its first two takes
abbrev pub none : ℕ
none = edition32.none

abbrev pub after_two : Words
after_two = end (answer_words edition32) (takes 20 ∷ takes 30 ∷ []) (desk 100 6)

pub record TwoTakes : Type 0 where
  pub size_is : after_two.size ≡ 100
  pub count_is : after_two.count ≡ 6
  pub total_is : after_two.free_storage ≡ 50
  pub off_is : after_two.free_offset ≡ 2
  -- the free region of 50 belongs to class 28: bit 3 of the top word, bit 4 of leaf byte 3, and record 2 on top of the class
  pub top_is : after_two.used_bins_top ≡ 8
  pub leaves_are : after_two.used_bins ≡ set (replicate 32 0) 3 16
  pub heads_are : after_two.bin_indices ≡ set (replicate 256 none) 28 2
  -- offset, size, list links back and on, neighbours before and after, used, and the word that no call touches
  pub nodes_are : after_two.nodes
      ≡ 0 ∷ 20 ∷ none ∷ none ∷ none ∷ 1 ∷ 1 ∷ 7
      ∷ 20 ∷ 30 ∷ none ∷ none ∷ 0 ∷ 2 ∷ 1 ∷ 7
      ∷ 50 ∷ 50 ∷ none ∷ none ∷ 1 ∷ none ∷ 0 ∷ 7
      ∷ 7 ∷ 7 ∷ 7 ∷ 7 ∷ 7 ∷ 7 ∷ 0 ∷ 7
      ∷ 7 ∷ 7 ∷ 7 ∷ 7 ∷ 7 ∷ 7 ∷ 0 ∷ 7
      ∷ 7 ∷ 7 ∷ 7 ∷ 7 ∷ 7 ∷ 7 ∷ 0 ∷ 7
      ∷ []
  -- of these the first three are spare, 3 on top
  pub pile_is : after_two.pile ≡ 5 ∷ 4 ∷ 3 ∷ 2 ∷ 1 ∷ 0 ∷ []

-- ---- "Ways to get it nearly right", and others: each row is the first to differ under one of the edits in must-fail/
pub record NearlyRight : Type 0 where
  -- only the first top bin searched: a request of class 1, in top bin 0, is served by a region of class 36, in top bin 4
  pub next_top_bin : answers (answer_words edition32) (takes 1 ∷ []) (desk 100 6) ≡ granted 0 0 ∷ []
  -- the leaf floor kept after moving up: a request of class 7, leaf 7, is served by a region of class 32, leaf 0
  pub floor_dropped : answers (answer_words edition32) (takes 7 ∷ []) (desk 64 4) ≡ granted 0 0 ∷ []
  -- the top bit not cleared when its leaf byte falls to 0: the only region is granted whole
  pub top_bit_cleared : answers (answer_words edition32) (takes 64 ∷ Ask Report ∷ takes 1 ∷ []) (desk 64 4)
      ≡ granted 0 0 ∷ reported 0 0 ∷ refused 4 ∷ []
  -- the pile index off by one: a remainder takes the record on top
  pub pile_top : answers (answer_words edition32) (takes 10 ∷ takes 10 ∷ []) (desk 100 6) ≡ granted 0 0 ∷ granted 10 1 ∷ []
  -- the old top's back link not written: of two regions of class 10 the lower is merged away first, and the class is then empty
  pub linked_back : answers (answer_words edition32)
      (takes 10 ∷ takes 10 ∷ takes 10 ∷ takes 10 ∷ takes 10 ∷ takes 10
      ∷ gives_back 0 0 ∷ gives_back 20 2 ∷ gives_back 10 1 ∷ gives_back 40 4 ∷ takes 10 ∷ [])
      (desk 100 8)
      ≡ granted 0 0 ∷ granted 10 1 ∷ granted 20 2 ∷ granted 30 3 ∷ granted 40 4 ∷ granted 50 5
      ∷ done ∷ done ∷ done ∷ done ∷ granted 40 4 ∷ []
  -- a size without a class refused before spares are asked for: with one spare record the answer is 3
  pub spares_before_class : answers (answer_words edition32) (takes 4294967295 ∷ takes 20 ∷ takes 4294967295 ∷ []) (desk 100 3)
      ≡ refused 4 ∷ granted 0 0 ∷ refused 3 ∷ []
  -- the remainder linked before the grant: both are of class 36, and the class must keep the remainder
  pub grant_first : answers (answer_words edition32) (takes 1 ∷ Ask Report ∷ []) (desk 100 4) ≡ granted 0 0 ∷ reported 99 96 ∷ []

-- ---- a word of record 0 spoiled in a fresh store: 6, and the words as they came
unfoldable pub spoiled : (field v : ℕ) → Words
unfolding desk put
spoiled field v = with_nodes (desk 100 6) (put 0 field v (desk 100 6).nodes)

pub record Spoiled : Type 0 where
  -- a length below the request, though its class is not
  pub too_short : answer_words edition32 (takes 20) (spoiled data_size 5) ≡ (refused 6, spoiled data_size 5)
  -- an offset from which the length passes the size
  pub outside : answer_words edition32 (takes 20) (spoiled data_offset 1) ≡ (refused 6, spoiled data_offset 1)
  -- a list that comes back to its own record
  pub around : answer_words edition32 (Ask FullReport) (spoiled bin_next 0) ≡ (refused 6, spoiled bin_next 0)
  -- a kept total that a span of 20, handed back, would take past the size; one less, and it does not
  pub total_past : (answer_words edition32 (gives_back 0 0) (with_total after_two 81)).0 ≡ refused 6
  pub total_just : (answer_words edition32 (gives_back 0 0) (with_total after_two 80)).0 ≡ done
  -- nothing else is spoiled: with the word that belongs there, it is the fresh store, where neither call is refused
  pub right_size : spoiled data_size 100 ≡ desk 100 6
  pub right_offset : spoiled data_offset 0 ≡ desk 100 6
  pub right_link : spoiled bin_next none ≡ desk 100 6

-- ---- "Handle and offset must agree", on words, sound or not: 8, and the words as they came
pub record PairsOnWords : Type 0 where
  -- record 1 lies at 20 and is 30 long
  pub another's_offset : answer_words edition32 (gives_back 0 1) after_two ≡ (refused 8, after_two)
  pub its_length : answer_words edition32 (gives_back 30 1) after_two ≡ (refused 8, after_two)
  pub its_own : (answer_words edition32 (gives_back 20 1) after_two).0 ≡ done
  pub asked_elsewhere : answer_words edition32 (asks_size 0 1) after_two ≡ (refused 8, after_two)
  pub asked_there : answer_words edition32 (asks_size 20 1) after_two ≡ (length_is 30, after_two)
  -- record 2 is free and lies at 50, record 3 is spare, and there is no record 6: 5, whatever the offset
  pub not_live : map (λ (c : Call). (answer_words edition32 c after_two).0) (gives_back 50 2 ∷ gives_back 0 2 ∷ gives_back 7 3 ∷ gives_back 0 6 ∷ [])
      ≡ refused 5 ∷ refused 5 ∷ refused 5 ∷ refused 5 ∷ []
  -- it is the word that counts: where record 0's is spoiled, its old offset no longer serves
  pub spoiled_offset : map (λ (c : Call). (answer_words edition32 c (with_nodes after_two (put 0 data_offset 9 after_two.nodes))).0)
      (gives_back 0 0 ∷ asks_size 0 0 ∷ asks_size 9 0 ∷ [])
      ≡ refused 8 ∷ refused 8 ∷ length_is 20 ∷ []

-- ---- the bits spoiled in a fresh store, whose one region is of class 36: bit 4 of leaf byte 4, under bit 4 of the top word
unfoldable pub spoiled_bits : (top : ℕ) → (leaves : List ℕ) → Words
unfolding desk
spoiled_bits top leaves = with_lists (desk 100 6) top leaves (desk 100 6).bin_indices (desk 100 6).nodes

pub record SpoiledBits : Type 0 where
  -- a top bit over a leaf byte of 0 is no empty class (4) but a contradiction, to a take that comes to it and to the report
  pub bare_top_bit : (answer_words edition32 (takes 1) (spoiled_bits 16 (replicate 32 0))).0 ≡ refused 6
  pub bare_top_report : (answer_words edition32 (Ask Report) (spoiled_bits 16 (replicate 32 0))).0 ≡ refused 6
  -- where no top bit is set, the report has the kept total, and 0
  pub no_top_bit : (answer_words edition32 (Ask Report) (spoiled_bits 0 (replicate 32 0))).0 ≡ reported 100 0
  -- where a size has no class the bits are not looked at
  pub size_without_class : (answer_words edition32 (takes 4294967295) (spoiled_bits 1073741824 (set (replicate 32 0) 30 1))).0 ≡ refused 4
  -- of the classes 239 is the last that a report names; 240 is none in use
  pub class_239 : (answer_words edition32 (Ask Report) (spoiled_bits 536870912 (set (replicate 32 0) 29 128))).0 ≡ reported 100 4026531840
  pub class_240 : (answer_words edition32 (Ask Report) (spoiled_bits 1073741824 (set (replicate 32 0) 30 1))).0 ≡ refused 6

-- ---- the gate, at both ends of the count and at the length of each table; and at setup the size, in an edition of 99 units
abbrev pub edition99 : Edition
edition99 = record { none = 4294967295; limit = edition32.limit; greatest = 99; small = edition32.small; fits = lib.Dec.lit≤ tt }

pub record GateRows : Type 0 where
  -- document 02: "131,073 is now accepted and 1,048,577 refused"
  pub counts : map (λ (count : ℕ). gate edition32 6 count 9000000 1100000) (1 ∷ 2 ∷ 131072 ∷ 131073 ∷ 1048576 ∷ 1048577 ∷ [])
      ≡ 6 ∷ 0 ∷ 0 ∷ 0 ∷ 0 ∷ 6 ∷ []
  pub setup_counts : map (λ (count : ℕ). setup_gate edition32 100 count 9000000 1100000) (1 ∷ 2 ∷ 131072 ∷ 131073 ∷ 1048576 ∷ 1048577 ∷ [])
      ≡ 1 ∷ 0 ∷ 0 ∷ 0 ∷ 0 ∷ 1 ∷ []
  -- the tables of the greatest count, one word short of each, and as long as they must be
  pub greatest_tables : gate edition32 6 1048576 8388607 1048576 ∷ gate edition32 6 1048576 8388608 1048575 ∷ gate edition32 6 1048576 8388608 1048576 ∷ []
      ≡ 2 ∷ 2 ∷ 0 ∷ []
  pub nodes : map (λ (nodes : ℕ). gate edition32 6 2 nodes 2) (15 ∷ 16 ∷ []) ≡ 2 ∷ 0 ∷ []
  pub piles : map (λ (pile : ℕ). gate edition32 6 2 16 pile) (1 ∷ 2 ∷ []) ≡ 2 ∷ 0 ∷ []
  pub sizes : map (λ (size : ℕ). setup_gate edition99 size 2 16 2) (99 ∷ 100 ∷ []) ≡ 0 ∷ 10 ∷ []
  -- the count before the size, and the size before the lengths
  pub order : setup_gate edition99 100 1 0 0 ∷ setup_gate edition99 100 2 0 0 ∷ setup_gate edition99 99 2 0 0 ∷ [] ≡ 1 ∷ 10 ∷ 2 ∷ []

-- ---- "Count 1 is refused, 2 accepted though every take gives 3", and of document 02: "Refusals 1 and 6 and the limits of 01 move to that number; 131,073
-- is now accepted and 1,048,577 refused."
-- tables that are long enough for a count
abbrev pub LongEnough : ℕ → Lent → Type 0
LongEnough count lent = (nodes_needed count ≤ length lent.nodes) × (pile_needed count ≤ length lent.pile)

pub record CountRows : Type 0 where
  pub count_1 : (size : ℕ) (lent : Lent) → (setup_words edition32 size 1 lent).0 ≡ refused 1
  pub count_2 : (size : ℕ) (lent : Lent) → size < 2 ^ 32 → LongEnough 2 lent → (setup_words edition32 size 2 lent).0 ≡ done
  pub takes_of_2 : (size : ℕ) (lent : Lent) → size < 2 ^ 32 → LongEnough 2 lent → (cs : List Call) (asked : Request)
      → (answer_words edition32 (Take asked) (end (answer_words edition32) cs (setup_words edition32 size 2 lent).1)).0 ≡ refused 3
  pub accepted_before : (size : ℕ) (lent : Lent) → size < 2 ^ 32 → LongEnough 131072 lent → (setup_words edition32 size 131072 lent).0 ≡ done
  pub now_accepted : (size : ℕ) (lent : Lent) → size < 2 ^ 32 → LongEnough 131073 lent → (setup_words edition32 size 131073 lent).0 ≡ done
  pub greatest_count : (size : ℕ) (lent : Lent) → size < 2 ^ 32 → LongEnough 1048576 lent → (setup_words edition32 size 1048576 lent).0 ≡ done
  pub one_too_many : (size : ℕ) (lent : Lent) → (setup_words edition32 size 1048577 lent).0 ≡ refused 1
  -- a head with such a count: every call goes on behind its gate, if the tables are long enough; with one more it is refused, and every word stays
  pub in_heads : (c : Call) (w : Words) → OneOf (2 ∷ 131072 ∷ 131073 ∷ 1048576 ∷ []) w.count
      → nodes_needed w.count ≤ length w.nodes → pile_needed w.count ≤ length w.pile
      → answer_words edition32 c w ≡ behind edition32 c w
  pub one_too_many_in_a_head : (c : Call) (w : Words) → w.count ≡ 1048577 → answer_words edition32 c w ≡ (refused 6, w)
  -- every 32-bit size is one of this edition, so its setup gives 1 and 2 alone
  pub setup_32 : (size count : ℕ) (lent : Lent) (k : ℕ) → size < 2 ^ 32 → (setup_words edition32 size count lent).0 ≡ refused k
      → OneOf (1 ∷ 2 ∷ []) k
  -- LongEnough asks no more than it must: without it, a count that would do is refused as 2
  pub not_long_enough : (size count : ℕ) (lent : Lent) → size < 2 ^ 32 → 2 ≤ count → count ≤ edition32.limit → ¬ LongEnough count lent
      → (setup_words edition32 size count lent).0 ≡ refused 2
  -- "refused, it returns one of zeros": by value, the arrays too
  pub one_of_zeros : (size : ℕ) (nodes pile : List ℕ) → (setup_words edition32 size 1 (tables_alone nodes pile)).1
      ≡ record {
        size = 0;
        count = 0;
        free_storage = 0;
        free_offset = 0;
        used_bins_top = 0;
        used_bins = replicate 32 0;
        bin_indices = replicate 256 0;
        nodes = nodes;
        pile = pile;
      }

-- ---- every number that `may_give` names is given, on some words
-- the call gives this number on words whose gate is open
abbrev pub GivenBehind : Call → (k : ℕ) → Type 0
GivenBehind c k =
    (w : Words) × Room edition32 w.count (length w.nodes) (length w.pile) × ((answer_words edition32 c w).0 ≡ refused k)

-- the call names no record, or one that a store can have
abbrev pub AsksOfAStore : Question → Type 0
AsksOfAStore (SizeOf span) = span.number < edition32.limit
AsksOfAStore Report = Unit
AsksOfAStore FullReport = Unit
AsksOfAStore Fill = Unit

abbrev pub OfAStore : Call → Type 0
OfAStore (Take asked) = Unit
OfAStore (HandBack span) = span.number < edition32.limit
OfAStore Reset = Unit
OfAStore (Ask q) = AsksOfAStore q

pub record AllGiven : Type 0 where
  -- 8 is given to a record that can be live; to another it never is
  pub all_given : (c : Call) (k : ℕ) → (k ≡ 8 → OfAStore c) → OneOf (may_give c) k → (w : Words) × ((answer_words edition32 c w).0 ≡ refused k)
  pub never_8 : (c : Call) (w : Words) → (answer_words edition32 c w).0 ≡ refused 8 → OfAStore c
  -- and behind an open gate no number is named that is not meant: a reset is never refused there, a size query with 5 and 8 alone
  pub reset_never : (k : ℕ) → ¬ OneOf (may_give_behind Reset) k
  pub size_query_5_8 : (span : Token) (k : ℕ) → OneOf (may_give_behind (Ask (SizeOf span))) k ↔ ((k ≡ 5) ⊎ (k ≡ 8))
  -- and every number that is named there is given there, the 6 of a take, of a hand-back, of both reports and of the fill among them: for a take of any
  -- size, 6 if it has a class, for any record that a store can have, and for every question
  pub take_behind : (asked : Request) (k : ℕ) → (k ≡ 6 → asked.size ≤ greatest_served) → OneOf (may_give_behind (Take asked)) k
      → GivenBehind (Take asked) k
  pub back_behind : (span : Token) (k : ℕ) → span.number < edition32.limit → OneOf (may_give_behind (HandBack span)) k → GivenBehind (HandBack span) k
  pub told_behind : (q : Question) (k : ℕ) → (k ≡ 8 → AsksOfAStore q) → OneOf (may_give_behind (Ask q)) k → GivenBehind (Ask q) k
  -- a number given behind an open gate is given by words for which there is room, no less
  pub given_behind_means : (c : Call) (k : ℕ) → GivenBehind c k
      → (w : Words) × Room edition32 w.count (length w.nodes) (length w.pile) × ((answer_words edition32 c w).0 ≡ refused k)

-- ---- any marker that no record below the limit can have makes an edition, so the claims are of all of these
pub record EveryEdition : Type 0 where
  pub every_edition : (none limit greatest : ℕ) → limit ≤ none → greatest < 2 ^ 32
      → (E : Edition) × (E.none ≡ none) × (E.limit ≡ limit) × (E.greatest ≡ greatest)
