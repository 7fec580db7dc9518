-- What the questions answer on words: size query, both reports, the fill. Assumes nothing.
use Rattle.std.specs.Prelude.{cond, List, [], ◌∷◌, map, ℕ, zero, suc, ◌+◌, ◌-◌, ◌*◌, ltb, eqb, get_or, set, replicate}
use Rattle.small_float.specs.Class.{value, classes_in_use}
use Rattle.ledger.specs.Ledger.{Answer, length_is, reported, classes, refused, numbers_from}
use Rattle.ledger.specs.Fill.{fill_of}
use Rattle.ledger.specs.Calls.{Token, Question, SizeOf, Report, FullReport, Fill}
use Rattle.tables.specs.Layout.{data_offset, data_size, bin_next, word}
use Rattle.tables.specs.Words.{Words}
use Rattle.tables.specs.Search.{high_bit}
use Rattle.tables.specs.HandBack.{is_live}

-- as a hand-back: 5, then 8
unfoldable pub length_of : Words → Token → Answer
unfolding is_live
length_of w span =
    cond (is_live w.nodes w.count span.number)
    (cond (eqb (word w.nodes data_offset span.number) span.offset) (length_is (word w.nodes data_size span.number)) (refused 8))
    (refused 5)

-- ---- storage_report: the highest class, from the leading zeros of the top word and of its leaf byte
unfoldable pub report_class : Words → (c : ℕ) → Answer
report_class w c = cond (ltb c classes_in_use) (reported w.free_storage (value c)) (refused 6)

unfoldable pub report_leaf : Words → (t m : ℕ) → Answer
unfolding report_class high_bit
report_leaf w t m = cond (eqb m 0) (refused 6) (report_class w (8 * t + high_bit m))

unfoldable pub report_top : Words → (t : ℕ) → Answer
unfolding report_leaf
report_top w t = report_leaf w t (get_or w.used_bins t 0)

unfoldable pub report_of : Words → Answer
unfolding report_top high_bit
report_of w =
    cond (eqb w.free_offset 0) (reported 0 0)
    (cond (eqb w.used_bins_top 0) (reported w.free_storage 0) (report_top w (high_bit w.used_bins_top)))

-- ---- storage_report_full: the length of each class's list; a list of more steps than there are records is circular
pub data Walked : Type 0 where
  steps : ℕ → Walked
  lost : Walked

-- from record a, n steps having been made, at most fuel more
unfoldable pub list_length : (fuel : ℕ) → (nodes : List ℕ) → (count a n : ℕ) → Walked
list_length zero nodes count a n = cond (ltb a count) lost (steps n)
list_length (suc fuel) nodes count a n =
    cond (ltb a count) (list_length fuel nodes count (word nodes bin_next a) (n + 1)) (steps n)

pub data Counts : Type 0 where
  counts : List ℕ → Counts
  circular : Counts

unfoldable pub noted : Walked → (List ℕ → Counts) → ℕ → List ℕ → Counts
noted (steps n) go_on c so_far = go_on (set so_far c n)
noted lost go_on c so_far = circular

-- the lengths of k class lists from c on, written over so_far
unfoldable pub count_from : ℕ → Words → ℕ → List ℕ → Counts
unfolding noted list_length
count_from zero w c so_far = counts so_far
count_from (suc k) w c so_far =
    noted (list_length w.count w.nodes w.count (get_or w.bin_indices c 0) 0) (count_from k w (suc c)) c so_far

unfoldable pub full_answer : Counts → Answer
unfolding numbers_from
full_answer (counts l) = classes (map (λ (c : ℕ). (value c, get_or l c 0)) (numbers_from 0 256))
full_answer circular = refused 6

unfoldable pub full_report_of : Words → Answer
unfolding full_answer count_from
full_report_of w = full_answer (count_from 256 w 0 (replicate 256 0))

-- ---- the fill: what is not free is live, and no more can be free than there is
unfoldable pub fill_of_words : Words → Answer
unfolding fill_of
fill_of_words w =
    cond (ltb w.size w.free_storage) (refused 6) (reported (w.size - w.free_storage) (fill_of (w.size - w.free_storage) w.size))

-- ---- every question, and the refusals that each can give once the gate is open
unfoldable pub told_by : Words → Question → Answer
unfolding length_of report_of full_report_of fill_of_words
told_by w (SizeOf span) = length_of w span
told_by w Report = report_of w
told_by w FullReport = full_report_of w
told_by w Fill = fill_of_words w

abbrev pub may_tell : Question → List ℕ
may_tell (SizeOf span) = 5 ∷ 8 ∷ []
may_tell Report = 6 ∷ []
may_tell FullReport = 6 ∷ []
may_tell Fill = 6 ∷ []
