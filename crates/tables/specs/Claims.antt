-- All that is claimed of the words, each claim beneath the sentence that it states: one record, which proofs/Claims.antt makes for every
-- edition. Assumes nothing.
use Rattle.std.specs.Prelude.{◌≡◌, ◌↔◌, ◌⊎◌, ◌≢◌, cond, List, [], ◌∷◌, ℕ, zero, suc, ◌+◌, ◌*◌, ◌-◌, ◌≤◌, ◌<◌, eqb, length, get_or}
use Rattle.basics.specs.Extreme.{Greatest, Least}
use Rattle.small_float.specs.Class.{greatest_served}
use Rattle.ledger.specs.Ledger.{Ledger, granted, done, refused, setup, by_class, Stacks}
use Rattle.ledger.specs.Calls.{Request, Token, SizeOf, FullReport, Call, Take, HandBack, Reset, Ask, answer, end, answers, log}
use Rattle.ledger.specs.Stretch.{Stretch}
use Rattle.tables.specs.Layout.{data_offset, bin_next, used, word, nodes_needed, pile_needed}
use Rattle.tables.specs.Words.{Words, Edition}
use Rattle.tables.specs.Setup.{Lent, zeros, setup_words}
use Rattle.tables.specs.Search.{class_is, no_class, find_class, high_bit}
use Rattle.tables.specs.Questions.{may_tell}
use Rattle.tables.specs.Calls.{answer_words}
use Rattle.tables.specs.Sound.{Sound}
use Rattle.tables.specs.Room.{Room}
use Rattle.tables.specs.Reach.{KeptBeyond, AgreeOn, Agree, LeftAlone, Written}

-- the record that is reached after k steps along a class list
unfoldable pub along : List ℕ → ℕ → ℕ → ℕ
along nodes a zero = a
along nodes a (suc k) = along nodes (word nodes bin_next a) k

-- the list of class c goes on for more steps than there are records
abbrev pub Circular : Words → ℕ → Type 0
Circular w c = (k : ℕ) → k ≤ w.count → along w.nodes (get_or w.bin_indices c 0) k < w.count

-- a count out of its limits
abbrev pub BadCount : Edition → ℕ → Type 0
BadCount E count = (count < 2) ⊎ (E.limit < count)

-- a count within its limits, and a table too short for it
abbrev pub TooShort : Edition → (count nodes pile : ℕ) → Type 0
TooShort E count nodes pile =
    ((2 ≤ count) × (count ≤ E.limit)) × ((nodes < nodes_needed count) ⊎ (pile < pile_needed count))

-- a count within its limits, and a store larger than the edition allows; with 32-bit sizes there is none
abbrev pub TooLarge : Edition → (size count : ℕ) → Type 0
TooLarge E size count = ((2 ≤ count) × (count ≤ E.limit)) × (E.greatest < size)

-- k is one of these numbers
abbrev pub OneOf : List ℕ → ℕ → Type 0
OneOf [] k = ⊥
OneOf (n ∷ ns) k = (k ≡ n) ⊎ OneOf ns k

-- the refusals that a call can give once the gate is open, a take 6 only if its size has a class (`take_no_class`); a question's are in Questions.antt
abbrev pub may_give_behind : Call → List ℕ
may_give_behind (Take asked) = 3 ∷ 4 ∷ 6 ∷ []
may_give_behind (HandBack span) = 5 ∷ 8 ∷ 6 ∷ []
may_give_behind Reset = []
may_give_behind (Ask q) = may_tell q

-- and those that a call can give at all, on any words: 6 and 2 at the gate (setup: 1, 2, and 10 in an edition that has not every size)
abbrev pub may_give : Call → List ℕ
may_give c = 6 ∷ 2 ∷ may_give_behind c

-- "number at or above the count, or record not live", by the words: its used word is 0
abbrev pub NotLive : Words → ℕ → Type 0
NotLive w r = (w.count ≤ r) ⊎ (word w.nodes used r ≡ 0)

-- "the record is live but starts elsewhere", by the words: its used word is not 0, and its offset word is another number
abbrev pub Elsewhere : Words → Token → Type 0
Elsewhere w span =
    (span.number < w.count) × (word w.nodes used span.number ≢ 0) × (word w.nodes data_offset span.number ≢ span.offset)

-- class c holds something
abbrev pub Holds : Ledger Stacks → ℕ → Type 0
Holds l c = ¬ (l.index c ≡ [])

pub record Claims (E : Edition) : Type 0 where
  -- ---- setup: refused as 1 exactly for a bad count, else as 10 exactly for a size that the edition has not, else as 2 exactly for a short table;
  -- refused, it gives a head of zeros and leaves the tables; accepted, whatever the words held, the tables are sound for the ledger's setup
  pub setup_1 : (size count : ℕ) (lent : Lent) → ((setup_words E size count lent).0 ≡ refused 1) ↔ BadCount E count
  pub setup_10 : (size count : ℕ) (lent : Lent) → ((setup_words E size count lent).0 ≡ refused 10) ↔ TooLarge E size count
  pub setup_2 : (size count : ℕ) (lent : Lent)
      → ((setup_words E size count lent).0 ≡ refused 2) ↔ ((size ≤ E.greatest) × TooShort E count (length lent.nodes) (length lent.pile))
  pub setup_done : (size count : ℕ) (lent : Lent)
      → ((setup_words E size count lent).0 ≡ done) ↔ ((size ≤ E.greatest) × Room E count (length lent.nodes) (length lent.pile))
  pub setup_refused : (size count : ℕ) (lent : Lent) (k : ℕ) → (setup_words E size count lent).0 ≡ refused k
      → (setup_words E size count lent).1 ≡ zeros lent
  pub setup_sound : (size count : ℕ) (lent : Lent) → (setup_words E size count lent).0 ≡ done
      → Sound E (setup_words E size count lent).1 (setup by_class size count)
  -- which words setup and reset write
  pub setup_leaves : (size count : ℕ) (lent : Lent) (i : ℕ) → LeftAlone count i
      → get_or (setup_words E size count lent).1.nodes i 0 ≡ get_or lent.nodes i 0
  pub setup_pile_leaves : (size count : ℕ) (lent : Lent) (i : ℕ) → pile_needed count ≤ i
      → get_or (setup_words E size count lent).1.pile i 0 ≡ get_or lent.pile i 0
  pub setup_lengths : (size count : ℕ) (lent : Lent) → (length (setup_words E size count lent).1.nodes ≡ length lent.nodes)
      × (length (setup_words E size count lent).1.pile ≡ length lent.pile)
  -- and what they write does not depend on what stood there
  pub setup_fixed : (size count : ℕ) (a b : Lent) → (setup_words E size count a).0 ≡ done → (setup_words E size count b).0 ≡ done
      → (i : ℕ) → Written count i → get_or (setup_words E size count a).1.nodes i 0 ≡ get_or (setup_words E size count b).1.nodes i 0
  pub setup_pile_fixed : (size count : ℕ) (lent : Lent) → (setup_words E size count lent).0 ≡ done → (i : ℕ) → i < pile_needed count
      → get_or (setup_words E size count lent).1.pile i 0 ≡ count - i - 1
  pub reset_leaves : (w : Words) (i : ℕ) → LeftAlone w.count i → get_or (answer_words E Reset w).1.nodes i 0 ≡ get_or w.nodes i 0
  -- "Reset needs only a good count and lengths, whatever the words held."
  pub reset_sound : (w : Words) → w.size ≤ E.greatest → Room E w.count (length w.nodes) (length w.pile)
      → ((answer_words E Reset w).0 ≡ done) × Sound E (answer_words E Reset w).1 (setup by_class w.size w.count)
  -- ---- every other call: 6 for the head's count, then 2 for the lengths, before anything else; behind an open gate never 2
  pub call_6 : (c : Call) (w : Words) → BadCount E w.count → answer_words E c w ≡ (refused 6, w)
  pub call_2 : (c : Call) (w : Words) → TooShort E w.count (length w.nodes) (length w.pile) → answer_words E c w ≡ (refused 2, w)
  pub not_2 : (c : Call) (w : Words) → Room E w.count (length w.nodes) (length w.pile) → ¬ ((answer_words E c w).0 ≡ refused 2)
  -- ---- "given exactly when", behind an open gate and on any words, sound or not: 3 exactly if by the head one record is spare (`free_offset` is the
  -- spare records less one, so no head says 'none'); 5 exactly if the number is at or above the count or the used word is 0; 8 exactly if it is neither
  -- and the offset word is another number than the span's
  pub take_3 : (w : Words) (asked : Request) → Room E w.count (length w.nodes) (length w.pile)
      → ((answer_words E (Take asked) w).0 ≡ refused 3) ↔ (w.free_offset ≡ 0)
  -- document 02: "take (still refusal 4, after 3)", of a size without a class, whatever the bits say
  pub take_no_class : (w : Words) (asked : Request) → greatest_served < asked.size → Room E w.count (length w.nodes) (length w.pile)
      → answer_words E (Take asked) w ≡ (refused (cond (eqb w.free_offset 0) 3 4), w)
  pub back_5 : (w : Words) (span : Token) → Room E w.count (length w.nodes) (length w.pile)
      → ((answer_words E (HandBack span) w).0 ≡ refused 5) ↔ NotLive w span.number
  pub size_5 : (w : Words) (span : Token) → Room E w.count (length w.nodes) (length w.pile)
      → ((answer_words E (Ask (SizeOf span)) w).0 ≡ refused 5) ↔ NotLive w span.number
  pub back_8 : (w : Words) (span : Token) → Room E w.count (length w.nodes) (length w.pile)
      → ((answer_words E (HandBack span) w).0 ≡ refused 8) ↔ Elsewhere w span
  pub size_8 : (w : Words) (span : Token) → Room E w.count (length w.nodes) (length w.pile)
      → ((answer_words E (Ask (SizeOf span)) w).0 ≡ refused 8) ↔ Elsewhere w span
  -- which numbers a call can give at all, and which behind an open gate; so no call but setup gives 1
  pub numbers : (c : Call) (w : Words) (k : ℕ) → (answer_words E c w).0 ≡ refused k → OneOf (may_give c) k
  pub numbers_behind : (c : Call) (w : Words) → Room E w.count (length w.nodes) (length w.pile)
      → (k : ℕ) → (answer_words E c w).0 ≡ refused k → OneOf (may_give_behind c) k
  pub setup_numbers : (size count : ℕ) (lent : Lent) (k : ℕ) → (setup_words E size count lent).0 ≡ refused k
      → OneOf (1 ∷ 10 ∷ 2 ∷ []) k
  -- ---- sound tables: "Every call takes sound to sound and never gives 6 there", and answers as the ledger
  pub call_sound : (w : Words) (l : Ledger Stacks) → Sound E w l → (c : Call)
      → ((answer_words E c w).0 ≡ (answer by_class w.size w.count c l).0)
      × Sound E (answer_words E c w).1 (answer by_class w.size w.count c l).1
  pub never_6 : (w : Words) (l : Ledger Stacks) → Sound E w l → (c : Call) → ¬ ((answer_words E c w).0 ≡ refused 6)
  pub one_ledger : (w : Words) (l m : Ledger Stacks) → Sound E w l → Sound E w m → l ≡ m
  pub alike : (w v : Words) (l : Ledger Stacks) → Sound E w l → Sound E v l → (cs : List Call)
      → answers (answer_words E) cs w ≡ answers (answer_words E) cs v
  -- ---- any words at all: "A refusal changes no word .. Even from spoiled tables no span outside the store is granted."
  pub refused_kept : (c : Call) (w : Words) (k : ℕ) → (answer_words E c w).0 ≡ refused k → (answer_words E c w).1 ≡ w
  pub grant_inside : (w : Words) (asked : Request) (o r : ℕ) → (answer_words E (Take asked) w).0 ≡ granted o r → o + asked.size ≤ w.size
  -- "a circular list ends the full report with 6"
  pub circular_6 : (w : Words) (c : ℕ) → c < 256 → Circular w c → Room E w.count (length w.nodes) (length w.pile)
      → (answer_words E (Ask FullReport) w).0 ≡ refused 6
  -- and nothing else does, once the gate is open
  pub circular_exactly : (w : Words) → Room E w.count (length w.nodes) (length w.pile)
      → ((answer_words E (Ask FullReport) w).0 ≡ refused 6) ↔ ((c : ℕ) × (c < 256) × Circular w c)
  -- "words beyond them are neither read nor written"
  pub not_written : (c : Call) (w : Words) → KeptBeyond w.count w (answer_words E c w).1
  pub not_read : (c : Call) (w v : Words) → Agree w.count w v → Room E w.count (length w.nodes) (length w.pile)
      → ((answer_words E c w).0 ≡ (answer_words E c v).0) × Agree w.count (answer_words E c w).1 (answer_words E c v).1
  -- of what it is lent, an accepted setup reads neither the arrays nor, of the tables, more than the lengths need
  pub setup_not_read : (size count : ℕ) (a b : Lent) → size ≤ E.greatest → Room E count (length a.nodes) (length a.pile)
      → AgreeOn (nodes_needed count) a.nodes b.nodes → AgreeOn (pile_needed count) a.pile b.pile
      → ((setup_words E size count a).0 ≡ (setup_words E size count b).0)
      × Agree count (setup_words E size count a).1 (setup_words E size count b).1
  -- ---- the bits: the lowest class that holds something at or above c, and the highest of all
  pub search_finds : (w : Words) (l : Ledger Stacks) → Sound E w l → (c : ℕ)
      → ((find_class w.used_bins w.used_bins_top c ≡ no_class) × ((d : ℕ) → c ≤ d → l.index d ≡ []))
      ⊎ ((d : ℕ) × (find_class w.used_bins w.used_bins_top c ≡ class_is d) × Least (λ i. (c ≤ i) × Holds l i) d)
  pub highest_found : (w : Words) (l : Ledger Stacks) → Sound E w l
      → ((w.used_bins_top ≡ 0) × ((d : ℕ) → l.index d ≡ []))
      ⊎ Greatest (λ d. Holds l d) (8 * high_bit w.used_bins_top + high_bit (get_or w.used_bins (high_bit w.used_bins_top) 0))
  -- ---- runs. Demand 2: "from an accepted setup .., under any calls .., answers and reports .. are proved equal to document 01's plain ledger"
  pub demand_2 : (size count : ℕ) (lent : Lent) → (setup_words E size count lent).0 ≡ done → (cs : List Call)
      → (answers (answer_words E) cs (setup_words E size count lent).1 ≡ answers (answer by_class size count) cs (setup by_class size count))
      × Sound E (end (answer_words E) cs (setup_words E size count lent).1) (end (answer by_class size count) cs (setup by_class size count))
  -- Demand 3: after the stretch "every later call, handle numbers and reports included, answers as though the stretch had never been"
  pub demand_3 : (size count : ℕ) (lent : Lent) → (setup_words E size count lent).0 ≡ done → (before : List Call)
      → (cs : List Call) → Stretch [] (log (answer_words E) cs (end (answer_words E) before (setup_words E size count lent).1))
      → (later-calls : List Call)
      → answers (answer_words E) later-calls (end (answer_words E) cs (end (answer_words E) before (setup_words E size count lent).1))
      ≡ answers (answer_words E) later-calls (end (answer_words E) before (setup_words E size count lent).1)
