-- Each question, in one place: which refusals it can give, that it reads no word beyond those that its count needs, and that on sound words it answers
-- as the ledger does. A new question has its clauses here and in ledger's file of this name, and in no other proof. Assumes nothing.
use mathlib.Core.Path.{◌≡◌, refl, sym, ap, ap₂, ◌∙◌}
use mathlib.Core.Bool.{Bool, true, false, cond}
use mathlib.Core.Logic.{◌⊎◌, inl, inr}
use mathlib.Core.List.{List, [], ◌∷◌}
use Prim.Native.Nat.{ℕ, zero, suc, ◌+◌, ◌*◌, ◌≤◌, ◌<◌}
use native.Mathlib.Omega.{arith}
use lib.Dec.{ltb, eqb}
use lib.Count.{count_leading_zeros}
use lib.ListN.{length, get_or, replicate, length-replicate, get_or-replicate, get_or-eq_default}
use Rattle.basics.proofs.Decided.{Below, below, beyond, below?}
use Rattle.small_float.specs.Class.{classes_in_use}
use Rattle.ledger.specs.Ledger.{Ledger, Stacks, by_class, Answer, granted, done, length_is, reported, classes, refused}
use Rattle.ledger.specs.Calls.{Token, Question, SizeOf, Report, FullReport, Fill, told}
use borrow.Author.Tests.{lt-ltb, ne_eqb}
use Rattle.tables.specs.Layout.{data_offset, data_size, bin_next, used, word, put, nodes_needed, pile_needed}
use Rattle.tables.specs.Words.{Words, Edition, with_lists, with_tables, words_from}
use Rattle.tables.specs.Search.{high_bit}
use Rattle.tables.specs.HandBack.{is_live}
use Rattle.tables.specs.Questions.{report_class, report_leaf, report_top, report_of, length_of, list_length, noted}
use Rattle.tables.specs.Questions.{Counts, counts, circular, count_from, full_answer, full_report_of, fill_of_words, told_by, may_tell}
use Rattle.tables.specs.Calls.{edition32}
use Rattle.tables.specs.Room.{Room}
use Rattle.tables.specs.Reach.{AgreeOn}
use Rattle.tables.specs.Sound.{Sound}
use Rattle.tables.specs.Claims.{OneOf}
use Rattle.tables.specs.Examples.{AsksOfAStore}
use Rattle.tables.proofs.PlanEnds.{either}
use Rattle.tables.proofs.Guards.{live_low}
use Rattle.tables.proofs.Agreeing.{word_agree}
use Rattle.tables.proofs.Fields.{fits_below, length_put, word_put_field, word_put_same}
use Rattle.tables.proofs.SizeSound.{length_is_told}
use Rattle.tables.proofs.ReportSound.{report_is}
use Rattle.tables.proofs.FullReportSound.{full_is}
use Rattle.tables.proofs.FillSound.{fill_is}

-- ---- refusals
-- no refusal, or one with a number of these
abbrev pub Gives : List ℕ → Answer → Type 0
Gives ns (granted o r) = Unit {0}
Gives ns done = Unit {0}
Gives ns (length_is s) = Unit {0}
Gives ns (reported total largest) = Unit {0}
Gives ns (classes l) = Unit {0}
Gives ns (refused k) = OneOf ns k

module _ (w : Words) where
  report_gives : Gives (6 ∷ []) (report_of w)
  unfolding report_of report_top report_leaf report_class
  report_gives =
      either (Gives (6 ∷ [])) (eqb w.free_offset 0) tt
      (either (Gives (6 ∷ [])) (eqb w.used_bins_top 0) tt
      (either (Gives (6 ∷ [])) (eqb m 0) (inl refl)
      (either (Gives (6 ∷ [])) (ltb (8 * t + high_bit m) classes_in_use) tt (inl refl))))
    where
      t : ℕ
      t = high_bit w.used_bins_top

      m : ℕ
      m = get_or w.used_bins t 0

  full_gives : (l : Counts) → Gives (6 ∷ []) (full_answer l)
  unfolding full_answer
  full_gives (counts l) = tt
  full_gives circular = inl refl

  pub told_gives : (q : Question) → Gives (may_tell q) (told_by w q)
  unfolding told_by length_of full_report_of fill_of_words
  told_gives (SizeOf span) =
      either (Gives (5 ∷ 8 ∷ [])) (is_live w.nodes w.count span.number)
      (either (Gives (5 ∷ 8 ∷ [])) (eqb (word w.nodes data_offset span.number) span.offset) tt (inr (inl refl)))
      (inl refl)
  told_gives Report = report_gives
  told_gives FullReport = full_gives (count_from 256 w 0 (replicate 256 0))
  told_gives Fill = either (Gives (6 ∷ [])) (ltb w.size w.free_storage) (inl refl) tt

-- 5 and 8 are a size query's, and 6 is all else
pub tell_cases : (q : Question) (k : ℕ) → OneOf (may_tell q) k → (((k ≡ 5) ⊎ (k ≡ 8)) × ((span : Token) × (q ≡ SizeOf span))) ⊎ (k ≡ 6)
tell_cases (SizeOf span) k (inl e) = inl (inl e, (span, refl))
tell_cases (SizeOf span) k (inr (inl e)) = inl (inr e, (span, refl))
tell_cases (SizeOf span) k (inr (inr e)) = absurd e
tell_cases Report k (inl e) = inr e
tell_cases Report k (inr e) = absurd e
tell_cases FullReport k (inl e) = inr e
tell_cases FullReport k (inr e) = absurd e
tell_cases Fill k (inl e) = inr e
tell_cases Fill k (inr e) = absurd e

-- ---- what is read: w, and w with other tables that agree with its own
module _ (w : Words) (nodes pile : List ℕ) (N : AgreeOn (nodes_needed w.count) w.nodes nodes)
    (P : AgreeOn (pile_needed w.count) w.pile pile) where
  abbrev v : Words
  v = with_tables w nodes pile

  reads : (f r : ℕ) → f < 8 → r < w.count → word w.nodes f r ≡ word nodes f r
  reads f r f8 l = word_agree w.count N f r f8 l

  pub live_same : (r : ℕ) → is_live w.nodes w.count r ≡ is_live nodes w.count r
  unfolding is_live
  live_same r = elim (below? r w.count) [
    | below l e ↦ rw (e, reads used r (omega arith) l) refl
    | beyond l e ↦ rw e refl
  ]

  size_same : (span : Token) → length_of w span ≡ length_of v span
  unfolding length_of
  size_same span = rw (← (live_same span.number)) (at (is_live w.nodes w.count span.number) refl)
    where
      -- what is told of a live record, by its offset word and its length
      told_at : (start length : ℕ) → Answer
      told_at start length = cond (eqb start span.offset) (length_is length) (refused 8)

      at : (t : Bool) → is_live w.nodes w.count span.number ≡ t
          → cond t (told_at (word w.nodes data_offset span.number) (word w.nodes data_size span.number)) (refused 5)
          ≡ cond t (told_at (word nodes data_offset span.number) (word nodes data_size span.number)) (refused 5)
      at true e =
          let low = live_low w.nodes w.count span.number e in
          ap₂ told_at (reads data_offset span.number (omega arith) low) (reads data_size span.number (omega arith) low)
      at false e = refl

  report_same : report_of w ≡ report_of v
  unfolding report_of report_top report_leaf report_class
  report_same = refl

  walk_same : (fuel a k : ℕ) → list_length fuel w.nodes w.count a k ≡ list_length fuel nodes w.count a k
  unfolding list_length
  walk_same zero a k = refl
  walk_same (suc fuel) a k = at (below? a w.count) (λ b. walk_same fuel b (k + 1))
    where
      at : Below a w.count → ((b : ℕ) → list_length fuel w.nodes w.count b (k + 1) ≡ list_length fuel nodes w.count b (k + 1))
          → list_length (suc fuel) w.nodes w.count a k ≡ list_length (suc fuel) nodes w.count a k
      at (below l e) onward = rw (e, reads bin_next a (omega arith) l) (onward (word nodes bin_next a))
      at (beyond l e) onward = rw e refl

  counts_same : (k c : ℕ) (so_far : List ℕ) → count_from k w c so_far ≡ count_from k v c so_far
  unfolding count_from
  counts_same zero c so_far = refl
  counts_same (suc k) c so_far =
      λ i. noted (walk_same w.count (get_or w.bin_indices c 0) 0 i) (λ (l : List ℕ). counts_same k (suc c) l i) c so_far

  pub told_alike : (q : Question) → told_by w q ≡ told_by v q
  unfolding told_by length_of full_report_of fill_of_words
  told_alike (SizeOf span) = size_same span
  told_alike Report = report_same
  told_alike FullReport = ap full_answer (counts_same 256 0 (replicate 256 0))
  told_alike Fill = refl

-- ---- on sound words
pub told_sound : (E : Edition) (w : Words) (l : Ledger Stacks) → Sound E w l → (q : Question) → told_by w q ≡ told by_class w.size w.count q l
unfolding told_by told
told_sound E w l S (SizeOf span) = length_is_told E w l S span.number span.offset
told_sound E w l S Report = report_is E w l S
told_sound E w l S FullReport = full_is E w l S
told_sound E w l S Fill = fill_is E w l S

-- ---- that each number is given, on words for which there is room
-- scalars over tables of zeros: no record is live, and no class holds anything
abbrev pub bare : (count off : ℕ) → (nodes pile : List ℕ) → Words
bare count off nodes pile = words_from 0 count 0 off 0 [] [] nodes pile

abbrev pub two : ℕ → Words
two off = bare 2 off (replicate 16 0) (replicate 2 0)

pub room : (off : ℕ) → Room edition32 2 (length (two off).nodes) (length (two off).pile)
room off = record { count_low = omega arith; count_high = omega arith; nodes_room = omega arith; pile_room = omega arith }

pub all_zero : (n i : ℕ) → get_or (replicate {A = ℕ} n 0) i 0 ≡ 0
all_zero n i = elim (below? i n) [
  | below l e ↦ get_or-replicate {A = ℕ} n i 0 0 l
  | beyond l e ↦ get_or-eq_default (replicate {A = ℕ} n 0) 0 {n = i} (omega (arith, length-replicate {A = ℕ} n 0))
]

-- with no heads every list begins with record 0, and there comes back to it
around_6 : told_by (two 1) FullReport ≡ refused 6
unfolding told_by word
around_6 = refl

-- a top bit over a leaf byte of 0
abbrev top_alone : Words
top_alone = with_lists (two 1) 1 [] [] (replicate 16 0)

report_6 : told_by top_alone Report ≡ refused 6
unfolding told_by count_leading_zeros
report_6 = refl

-- a unit is free in a store of none
abbrev more_free : Words
more_free = words_from 0 2 1 0 0 [] [] (replicate 16 0) (replicate 2 0)

fill_6 : told_by more_free Fill ≡ refused 6
unfolding told_by fill_of_words
fill_6 = refl

size_5 : (span : Token) → told_by (two 0) (SizeOf span) ≡ refused 5
unfolding told_by length_of is_live word
size_5 span = elim (below? span.number 2) [
  | below l e ↦ rw (e, all_zero 16 (8 * span.number + used)) refl
  | beyond l e ↦ rw e refl
]

-- every record is marked live, and record r starts at o
abbrev pub marked : (count o r : ℕ) → Words
marked count o r = bare count 1 (put r data_offset o (replicate (8 * count) 1)) (replicate count 0)

pub marked_room : (count o r : ℕ) → 2 ≤ count → count ≤ edition32.limit
    → Room edition32 count (length (marked count o r).nodes) (length (marked count o r).pile)
marked_room count o r low high = record {
  count_low = low;
  count_high = high;
  nodes_room = omega (arith, length_put r data_offset o (replicate (8 * count) 1), length-replicate {A = ℕ} (8 * count) 1);
  pile_room = omega (arith, length-replicate {A = ℕ} count 0);
}

pub marked_live : (count o r : ℕ) → r < count → is_live (marked count o r).nodes count r ≡ true
unfolding is_live word
marked_live count o r h =
    let ones = replicate {A = ℕ} (8 * count) 1 in
    let its-mark : word (put r data_offset o ones) used r ≡ 1
    = word_put_field ones r data_offset o r used refl refl refl ∙ get_or-replicate {A = ℕ} (8 * count) (8 * r + used) 1 0 (omega (arith, h)) in
    rw (lt-ltb r count h, its-mark) refl

pub marked_starts : (count o r : ℕ) → r < count → word (marked count o r).nodes data_offset r ≡ o
marked_starts count o r h =
    let ones = replicate {A = ℕ} (8 * count) 1 in
    word_put_same ones r data_offset o refl (fits_below ones count r (omega (arith, length-replicate {A = ℕ} (8 * count) 1)) h)

size_8 : (count : ℕ) (span : Token) → span.number < count → told_by (marked count (span.offset + 1) span.number) (SizeOf span) ≡ refused 8
unfolding told_by length_of
size_8 count span h = rw (
  marked_live count (span.offset + 1) span.number h,
  marked_starts count (span.offset + 1) span.number h,
  ne_eqb (span.offset + 1) span.offset (λ e. omega arith),
) refl

abbrev Shown : Question → (j : ℕ) → Type 0
Shown q j = (w : Words) × Room edition32 w.count (length w.nodes) (length w.pile) × (told_by w q ≡ refused j)

shown : (q : Question) {j k : ℕ} → k ≡ j → Shown q j → Shown q k
shown q e x = (x.0, x.1, x.2 ∙ ap refused (sym e))

pub told_given : (q : Question) (k : ℕ) → (k ≡ 8 → AsksOfAStore q) → OneOf (may_tell q) k
    → (w : Words) × Room edition32 w.count (length w.nodes) (length w.pile) × (told_by w q ≡ refused k)
told_given (SizeOf span) k in_store (inl e) = shown (SizeOf span) e (two 0, room 0, size_5 span)
told_given (SizeOf span) k in_store (inr (inl e)) =
    shown (SizeOf span) e (
      marked edition32.limit (span.offset + 1) span.number,
      marked_room edition32.limit (span.offset + 1) span.number (omega arith) (omega arith),
      size_8 edition32.limit span (in_store e),
    )
told_given (SizeOf span) k in_store (inr (inr e)) = absurd e
told_given Report k in_store (inl e) = shown Report e (top_alone, room 1, report_6)
told_given Report k in_store (inr e) = absurd e
told_given FullReport k in_store (inl e) = shown FullReport e (two 1, room 1, around_6)
told_given FullReport k in_store (inr e) = absurd e
told_given Fill k in_store (inl e) = shown Fill e (more_free, room 0, fill_6)
told_given Fill k in_store (inr e) = absurd e
