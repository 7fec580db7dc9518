-- What the definitions beside this file give a reader to rely on: a row that is written is read, and judged if it is one of classes; every row of
-- numbers can be written; and the tally of a list of classes adds up. One record, which proofs/Facts.antt makes. Assumes nothing.
use Rattle.std.specs.Prelude.{ℕ, ◌+◌, ◌*◌, ◌^◌, ◌≤◌, ◌<◌, ◌≡◌, ◌≢◌, ◌↔◌, true, List, [], ◌∷◌, ◌++◌, length, get_or, None, Some}
use Rattle.oracle_lists.specs.declared.rows.State.TheVariants.{Within}
use Rattle.oracle_lists.specs.declared.rows.Reader.{Reader}
use Rattle.oracle_lists.specs.declared.tally.Tally.{Tally}
use Rattle.oracle_lists.specs.declared.tally.Verdict.TheVariants.{Agrees, Listed, Differs}
use Rattle.oracle_lists.specs.declared.classes.Comparison.{Comparison}
use Rattle.oracle_lists.specs.Rows.{fresh, ended, fed_all, ends_well}
use Rattle.oracle_lists.specs.Tally.{counted}
use Rattle.oracle_lists.specs.Verdicts.{size_verdict, class_verdict, row_verdict}
use Rattle.oracle_lists.specs.Comparison.{no_bytes, after_bytes}

-- a text is a number in decimal
pub data Decimal : List ℕ → ℕ → Type 0 where
  one_digit : {k : ℕ} → k < 10 → Decimal ((48 + k) ∷ []) k
  digit_more : {text : List ℕ} {n k : ℕ} → Decimal text n → k < 10 → Decimal (text ++ ((48 + k) ∷ [])) (10 * n + k)

-- a text is numbers of 32 bits, with a space before each
pub data Numbers : List ℕ → List ℕ → Type 0 where
  none : Numbers [] []
  number_more : {text : List ℕ} {ns : List ℕ} {number : List ℕ} {n : ℕ}
      → Numbers text ns
      → Decimal number n
      → n < 2 ^ 32
      → Numbers (text ++ (32 ∷ number)) (ns ++ (n ∷ []))

-- a number has a text; a row of numbers has one
pub record Written (n : ℕ) : Type 0 where
  pub text : List ℕ
  pub decimal : Decimal text n

pub record RowWritten (ns : List ℕ) : Type 0 where
  pub text : List ℕ
  pub numbers : Numbers text ns

-- a row with a number more: the last is d, the one before it c
abbrev pub with_number : Reader → ℕ → Reader
with_number r n =
    record { state = Within; letter = r.letter; fields = r.fields + 1; a = r.b; b = r.c; c = r.d; d = n }

unfoldable pub with_numbers : Reader → List ℕ → Reader
with_numbers r [] = r
with_numbers r (n ∷ ns) = with_numbers (with_number r n) ns

-- each row is counted under one verdict, and a row is named as the first that differs exactly if one does, by a number from 1 on
pub record AddsUp (t : Tally) : Type 0 where
  pub sum : t.agreed + t.listed + t.other ≡ t.rows
  pub named : (t.first ≡ None) ↔ (t.other ≡ 0)
  pub numbered : t.first ≢ Some 0

-- a row that begins where the last one ended, or the list begins: its text, and what is read
abbrev pub row_text : ℕ → List ℕ → List ℕ
row_text letter text = letter ∷ (text ++ (10 ∷ []))

abbrev pub row_read : ℕ → List ℕ → Reader
row_read letter ns = ended (with_numbers (fresh Within letter) ns)

-- rows of the class list, judged: the last class in use agrees; from 240 on the low 32 bits are listed and nothing else is; above 263 nothing is
pub record ClassRows : Type 0 where
  pub last_in_use : class_verdict 239 4_026_531_840 ≡ Agrees
  pub not_its_value : class_verdict 239 4_026_531_839 ≡ Differs
  pub none_left : class_verdict 240 0 ≡ Listed
  pub some_left : class_verdict 241 536_870_912 ≡ Listed
  pub not_what_is_left : class_verdict 241 536_870_913 ≡ Differs
  pub last_of_the_list : class_verdict 263 2_147_483_648 ≡ Listed
  pub behind_the_list : class_verdict 264 0 ≡ Differs

-- rows of sizes, judged: up to 4,026,531,840 a row agrees or differs; above, the Rust's 240 and 0 are listed, and nothing else is
pub record SizeRows : Type 0 where
  pub ordinary : size_verdict 17 16 17 18 ≡ Agrees
  pub not_its_down : size_verdict 17 17 17 18 ≡ Differs
  pub not_its_up : size_verdict 17 16 16 18 ≡ Differs
  pub not_its_smallest : size_verdict 17 16 17 16 ≡ Differs
  pub last_with_a_class : size_verdict 4_026_531_840 239 239 4_026_531_840 ≡ Agrees
  pub not_its_class : size_verdict 4_026_531_840 239 240 4_026_531_840 ≡ Differs
  pub not_its_store : size_verdict 4_026_531_840 239 239 0 ≡ Differs
  pub first_without : size_verdict 4_026_531_841 239 240 0 ≡ Listed
  pub last_without : size_verdict 4_294_967_295 239 240 0 ≡ Listed
  pub another_class : size_verdict 4_026_531_841 239 239 0 ≡ Differs
  pub another_store : size_verdict 4_026_531_841 239 240 4_026_531_840 ≡ Differs
  pub another_down : size_verdict 4_026_531_841 240 240 0 ≡ Differs

pub record ListFacts : Type 0 where
  -- a letter, up to four numbers and a newline are read as that row
  pub row_read_lem : (r : Reader) (letter : ℕ) {text ns : List ℕ}
      → ends_well r.state ≡ true
      → 97 ≤ letter
      → letter ≤ 122
      → Numbers text ns
      → length ns ≤ 4
      → fed_all r (row_text letter text) ≡ row_read letter ns
  -- and these are rows enough: every number can be written so, and every row of numbers of 32 bits
  pub number_written : (n : ℕ) → Written n
  pub row_written : (ns : List ℕ) → ((i : ℕ) → i < length ns → get_or ns i 0 < 2 ^ 32) → RowWritten ns
  -- from the other side: what is written has that text, any digits are a number, and any row may be given a number more
  pub written_means : (n : ℕ) (w : Written n) → Decimal w.text n
  pub row_written_means : (ns : List ℕ) (w : RowWritten ns) → Numbers w.text ns
  pub any_digits : (text : List ℕ) → 1 ≤ length text → ((i : ℕ) → i < length text → (48 ≤ get_or text i 0) × (get_or text i 0 ≤ 57))
      → (n : ℕ) × Decimal text n
  pub may_be_none : Numbers [] []
  pub may_be_more : (text ns number : List ℕ) (n : ℕ) → Numbers text ns → Decimal number n → n < 2 ^ 32
      → Numbers (text ++ (32 ∷ number)) (ns ++ (n ∷ []))
  -- all bytes are read as the comparison reads them
  pub comparison_reads : (p : Comparison) (bytes : List ℕ) → (after_bytes p bytes).reader ≡ fed_all p.reader bytes
  -- and the row is judged, once
  pub row_judged : (p : Comparison) (letter : ℕ) {text ns : List ℕ}
      → ends_well p.reader.state ≡ true
      → 97 ≤ letter
      → letter ≤ 122
      → Numbers text ns
      → length ns ≤ 4
      → after_bytes p (row_text letter text)
      ≡ record { reader = row_read letter ns; tally = counted p.tally (row_verdict (row_read letter ns)) }
  pub class_rows : ClassRows
  pub size_rows : SizeRows
  -- what a tally that adds up says of its counters: neither less nor more
  pub adds_up_exactly : (t : Tally) → AddsUp t ↔ ((t.agreed + t.listed + t.other ≡ t.rows) × ((t.first ≡ None) ↔ (t.other ≡ 0)) × (t.first ≢ Some 0))
  -- a tally that adds up and names no row hides none: all its rows agreed or are listed; and where they all do, it names none
  pub hides_none : (t : Tally) → AddsUp t → t.first ≡ None → t.agreed + t.listed ≡ t.rows
  pub names_none : (t : Tally) → AddsUp t → t.agreed + t.listed ≡ t.rows → t.first ≡ None
  -- no counter is full at the end of a list that a machine can hold
  pub adds_up : (bytes : List ℕ) → length bytes < 2 ^ 64 → AddsUp (after_bytes no_bytes bytes).tally
