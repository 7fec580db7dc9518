-- A number's digits from the other side, the fields that a line can hold, and an answer and a last line told by their lines. Assumes nothing.
use Prim.Native.Nat.{ℕ, zero, suc, ◌+◌, ◌-◌, ◌*◌, ◌/◌, ◌%◌, ◌^◌, ◌≤◌, ◌<◌}
use native.Mathlib.Omega.{arith}
use mathlib.Core.Path.{◌≡◌, refl, sym, ap, ap₂, subst, ◌∙◌}
use mathlib.Core.Bool.{Bool, true, false, cond}
use mathlib.Core.Logic.{◌≢◌}
use mathlib.Core.List.{List, [], ◌∷◌, ◌++◌, append-nil}
use lib.Dec.{eqb}
use lib.ListN.{length, take, get_or, get_or-append}
use lib.Seq.{take-suc, take_all, length-take-le, get_or-take}
use Rattle.basics.proofs.Clash.{clash}
use Rattle.basics.proofs.Decided.{below, beyond, below?}
use Rattle.ledger.specs.Figures.{refusal_of}
use Rattle.answers.proofs.Numbers.{number_means}
use Rattle.calls.specs.Values.{Answer, Fits, says}
use Rattle.calls.specs.declared.Call.{Call}
use Rattle.calls.specs.declared.Call.TheVariants.{Take, HandBack, SetUp}
use Rattle.calls.specs.Values as answer
use Rattle.std.specs.Prelude.{Some, None, Ok, Err}
use Rattle.journal.specs.declared.entry.Broken.{Broken}
use Rattle.journal.specs.Refusals.{broken_number}
use Rattle.journal.proofs.RefusalNumbers.{journal_numbers}
use Rattle.journal_text.specs.declared.line.Fault.{Fault}
use Rattle.journal_text.specs.Decimal.{decimal, spaced}
use Rattle.journal_text.specs.Texts.{take_word, back_word, set_up_word, reset_word, answer_text, broken_text, figures_of}
use Rattle.journal_text.specs.Words.{is_digit, leading, only_blanks, trimmed, word_in, behind_word, same}
use Rattle.journal_text.specs.Lines.{Value, Is, Wrong, Line, Holds, Blank, Bad, made_on, valued, number_of, ended, last_number, holds, holds_two, resets, call_in, line_in}
use Rattle.journal_text.specs.Facts.{Digits, NoZeroInFront}
use Rattle.journal_text.proofs.Scanning.{digit_range, each_such}
use Rattle.journal_text.proofs.Decimals.{decimal_digit, decimal_more, of_tenths, length_digit, has_digits, made_append, made_grows, makes_up}
use Rattle.journal_text.proofs.ReadBack.{decimal_word, all_are_digits, word_first, word_behind, spaced_stops, spaced_word, spaced_behind}

-- ---- a number in decimal
pub digits_only : (n : ℕ) → Digits (decimal n)
digits_only n = (has_digits n, λ i inside. digit_range _ (each_such is_digit (decimal n) i (all_are_digits n) inside))

first_is : (n : ℕ) → 1 ≤ n → get_or (decimal n) 0 0 ≡ 48 → ⊥
first_is = of_tenths (λ n. 1 ≤ n → get_or (decimal n) 0 0 ≡ 48 → ⊥) one more
  where
    one : (n : ℕ) → n < 10 → 1 ≤ n → get_or (decimal n) 0 0 ≡ 48 → ⊥
    one n h some e =
        let digit : get_or (decimal n) 0 0 ≡ 48 + n = ap (λ (l : List ℕ). get_or l 0 0) (decimal_digit n h) in
        omega (arith, digit, e)

    more : (n : ℕ) → 10 ≤ n → (1 ≤ n / 10 → get_or (decimal (n / 10)) 0 0 ≡ 48 → ⊥) → 1 ≤ n → get_or (decimal n) 0 0 ≡ 48 → ⊥
    more n h tenth some e =
        let front : get_or (decimal n) 0 0 ≡ get_or (decimal (n / 10)) 0 0 =
        ap (λ (l : List ℕ). get_or l 0 0) (decimal_more n h)
        ∙ get_or-append (decimal (n / 10)) ((48 + n % 10) ∷ []) 0 0 (has_digits (n / 10)) in
        tenth (omega arith) (sym front ∙ e)

pub no_zero_in_front : (n : ℕ) → NoZeroInFront (decimal n)
no_zero_in_front n e = elim (below? n 10) [
  | below p t ↦ length_digit n p
  | beyond p t ↦ absurd (first_is n (omega arith) e)
]

-- digits whose first is no zero make something
made_some : (text : List ℕ) → Digits text → (get_or text 0 0 ≡ 48 → ⊥) → 1 ≤ made_on 0 text
unfolding made_on
made_some [] d h = absurd (omega (arith, d.0))
made_some (b ∷ bs) d h =
    let range = d.1 0 (omega arith) in
    let not_zero : b ≡ 48 → ⊥ = h in
    omega (arith, made_grows (10 * 0 + (b - 48)) bs, range.0, not_zero)

-- the digits before the last, then the last
module _ (k : ℕ) (text : List ℕ) (long : length text ≡ suc (suc k)) (d : Digits text) where
  front : List ℕ
  front = take (suc k) text

  last : ℕ
  last = get_or text (suc k) 0

  parts : text ≡ front ++ (last ∷ [])
  unfolding front last
  parts = sym (take_all (suc (suc k)) text (omega arith)) ∙ take-suc text (suc k) 0 (omega arith)

  front_long : length front ≡ suc k
  unfolding front
  front_long = length-take-le (suc k) text (omega arith)

  front_reads : (i : ℕ) → i < suc k → get_or front i 0 ≡ get_or text i 0
  unfolding front
  front_reads i h = get_or-take (suc k) text i 0 h

  front_digits : Digits front
  front_digits = (
    omega (arith, front_long),
    λ i inside. subst (λ (b : ℕ). (48 ≤ b) × (b ≤ 57)) (sym (front_reads i (omega (arith, front_long))))
        (d.1 i (omega (arith, front_long))),
  )

  last_digit : (48 ≤ last) × (last ≤ 57)
  unfolding last
  last_digit = d.1 (suc k) (omega arith)

others_of : (k : ℕ) (text : List ℕ) → length text ≡ suc k → Digits text → NoZeroInFront text → text ≡ decimal (made_on 0 text)
unfolding made_on
others_of zero [] long d h = absurd (omega arith)
others_of zero (b ∷ []) long d h =
    let range = d.1 0 (omega arith) in
    let n = 10 * 0 + (b - 48) in
    let same : 48 + n ≡ b = omega (arith, range.0) in
    sym (decimal_digit n (omega (arith, range.1)) ∙ ap (λ (x : ℕ). x ∷ []) same)
others_of zero (b ∷ x ∷ bs) long d h = absurd (omega arith)
others_of (suc k) text long d h =
    let f = front k text long d in
    let l = last k text long d in
    let m = made_on 0 f in
    let first = front_reads k text long d 0 (omega arith) in
    let no_zero : get_or text 0 0 ≡ 48 → ⊥ = λ e. omega (arith, h e) in
    let tens = others_of k f (front_long k text long d) (front_digits k text long d) (λ e. absurd (no_zero (sym first ∙ e))) in
    let some : 1 ≤ m = made_some f (front_digits k text long d) (λ e. no_zero (sym first ∙ e)) in
    let digit = last_digit k text long d in
    let n = 10 * m + (l - 48) in
    let whole : made_on 0 text ≡ n = ap (λ (t : List ℕ). made_on 0 t) (parts k text long d) ∙ made_append 0 f (l ∷ []) in
    let tenth : n / 10 ≡ m = omega (arith, digit.0, digit.1) in
    let unit : 48 + n % 10 ≡ l = omega (arith, digit.0, digit.1) in
    let back : decimal n ≡ text =
    decimal_more n (omega arith)
    ∙ ap₂ (λ (t : ℕ) (u : ℕ). decimal t ++ (u ∷ [])) tenth unit
    ∙ ap (λ (t : List ℕ). t ++ (l ∷ [])) (sym tens)
    ∙ sym (parts k text long d) in
    sym (ap (λ (x : ℕ). decimal x) whole ∙ back)

pub no_others : (text : List ℕ) → Digits text → NoZeroInFront text → text ≡ decimal (made_on 0 text)
no_others text d h = others_of (length text - 1) text (omega (arith, d.0)) d h

-- ---- the fields that a line can hold
data ValueFits : Value → Type 0 where
  fitting : {n : ℕ} → n < 2 ^ 32 → ValueFits (Is n)
  no_number : {why : Fault} → ValueFits (Wrong why)

data LineFits : Line → Type 0 where
  a_call : {c : Call} → Fits c → LineFits (Holds c)
  no_line : LineFits Blank
  no_call : {why : Fault} → LineFits (Bad why)

-- of two values or lines, whichever a test chooses
value_either : {a b : Value} (t : Bool) → ValueFits a → ValueFits b → ValueFits (cond t a b)
value_either true x y = x
value_either false x y = y

line_either : {a b : Line} (t : Bool) → LineFits a → LineFits b → LineFits (cond t a b)
line_either true x y = x
line_either false x y = y

valued_fits : (n : ℕ) → ValueFits (valued n)
unfolding valued
valued_fits n = elim (below? n (2 ^ 32)) [
  | below p e ↦ rw e (fitting p)
  | beyond p e ↦ rw e no_number
]

number_fits : (word : List ℕ) → ValueFits (number_of word)
unfolding number_of
number_fits word =
    value_either (eqb (length word) 0) no_number
    (value_either (eqb (leading is_digit word) (length word)) (valued_fits (made_on 0 word)) no_number)

ended_fits : {v : Value} (behind : List ℕ) → ValueFits v → ValueFits (ended v behind)
unfolding ended
ended_fits behind (fitting h) = value_either (only_blanks behind) (fitting h) no_number
ended_fits behind no_number = no_number

last_fits : (text : List ℕ) → ValueFits (last_number text)
unfolding last_number
last_fits text = ended_fits (behind_word text) (number_fits (word_in text))

holds_fits : (call : ℕ → Call) → ((n : ℕ) → n < 2 ^ 32 → Fits (call n)) → {v : Value} → ValueFits v → LineFits (holds call v)
unfolding holds
holds_fits call each (fitting {n} h) = a_call (each n h)
holds_fits call each no_number = no_call

two_fit : (call : ℕ → ℕ → Call) → ((n m : ℕ) → n < 2 ^ 32 → m < 2 ^ 32 → Fits (call n m)) → {v : Value} (behind : List ℕ) → ValueFits v
    → LineFits (holds_two call v behind)
unfolding holds_two
two_fit call each behind (fitting {n} h) = holds_fits (call n) (λ m k. each n m h k) (last_fits behind)
two_fit call each behind no_number = no_call

call_fits : (word behind : List ℕ) → LineFits (call_in word behind)
unfolding call_in resets
call_fits word behind =
    line_either (same word set_up_word)
    (two_fit (λ size count. SetUp record { 0 = size } count) (λ n m h k. (h, (k, tt))) (behind_word behind) (number_fits (word_in behind)))
    (line_either (same word take_word) (holds_fits (λ size. Take record { 0 = size }) (λ n h. (h, tt)) (last_fits behind))
    (line_either (same word back_word)
    (two_fit (λ handle offset. HandBack record { offset = offset; metadata = record { 0 = handle } }) (λ n m h k. (h, (k, tt))) (behind_word behind)
    (number_fits (word_in behind)))
    (line_either (same word reset_word) (line_either (only_blanks behind) (a_call tt) no_call) no_call)))

line_fits : (text : List ℕ) → LineFits (line_in text)
unfolding line_in
line_fits text =
    line_either (only_blanks text) no_line
    (line_either (eqb (get_or (trimmed text) 0 0) 35) no_line (call_fits (word_in text) (behind_word text)))

call_of : {r : Line} → LineFits r → (d : Call) → r ≡ Holds d → Fits d
call_of (a_call {c} h) d e =
    let one : c ≡ d = cc in
    subst (λ (x : Call). Fits x) one h
call_of no_line d e = clash (cc)
call_of no_call d e = clash (cc)

pub reads_fitting : (text : List ℕ) (c : Call) → line_in text ≡ Holds c → Fits c
reads_fitting text c e = call_of (line_fits text) c e

-- ---- an answer, told by its line: the number is the first word, and the figures stand behind it
same_decimal : (n m : ℕ) → decimal n ≡ decimal m → n ≡ m
same_decimal n m e = sym (makes_up n) ∙ ap (λ (text : List ℕ). made_on 0 text) e ∙ makes_up m

first_word : (a : Answer) → word_in (answer_text a) ≡ decimal (refusal_of (says a))
unfolding answer_text
first_word a = word_first (decimal (refusal_of (says a))) (spaced (figures_of a)) (decimal_word _) (spaced_stops (figures_of a))

same_number : (a b : Answer) → answer_text a ≡ answer_text b → refusal_of (says a) ≡ refusal_of (says b)
same_number a b e = same_decimal _ _ (sym (first_word a) ∙ ap (λ (text : List ℕ). word_in text) e ∙ first_word b)

same_figures : (a b : Answer) → answer_text a ≡ answer_text b → spaced (figures_of a) ≡ spaced (figures_of b)
unfolding answer_text
same_figures a b e =
    let behind : (x : Answer) → behind_word (answer_text x) ≡ spaced (figures_of x) =
    λ x. word_behind (decimal (refusal_of (says x))) (spaced (figures_of x)) (decimal_word _) (spaced_stops (figures_of x)) in
    sym (behind a) ∙ ap (λ (text : List ℕ). behind_word text) e ∙ behind b

first_figure : (n m : ℕ) (ns ms : List ℕ) → spaced (n ∷ ns) ≡ spaced (m ∷ ms) → n ≡ m
first_figure n m ns ms e = same_decimal n m (sym (spaced_word n ns) ∙ ap (λ (text : List ℕ). word_in text) e ∙ spaced_word m ms)

other_figures : (n m : ℕ) (ns ms : List ℕ) → spaced (n ∷ ns) ≡ spaced (m ∷ ms) → spaced ns ≡ spaced ms
other_figures n m ns ms e = sym (spaced_behind n ns) ∙ ap (λ (text : List ℕ). behind_word text) e ∙ spaced_behind m ms

-- a number behind spaces is not nothing
not_none : (n : ℕ) (ns : List ℕ) → spaced (n ∷ ns) ≡ spaced [] → ⊥
unfolding spaced
not_none n ns e = omega (arith, ap length e)

pub one_answer : (a b : Answer) → answer_text a ≡ answer_text b → a ≡ b
one_answer (Ok None) (Ok None) e = refl
one_answer (Ok None) (Ok (Some span)) e = absurd (not_none _ _ (sym (same_figures answer.Done (answer.Granted span) e)))
one_answer (Ok None) (Err why) e =
    absurd (omega (arith, same_number answer.Done (answer.Refused why) e, (number_means.in_range why).0))
one_answer (Ok (Some span)) (Ok None) e = absurd (not_none _ _ (same_figures (answer.Granted span) answer.Done e))
one_answer (Ok (Some s)) (Ok (Some t)) e =
    let all = same_figures (answer.Granted s) (answer.Granted t) e in
    let offsets : s.offset ≡ t.offset = first_figure s.offset t.offset (s.metadata.0 ∷ []) (t.metadata.0 ∷ []) all in
    let rest = other_figures s.offset t.offset (s.metadata.0 ∷ []) (t.metadata.0 ∷ []) all in
    let records : s.metadata.0 ≡ t.metadata.0 = first_figure s.metadata.0 t.metadata.0 [] [] rest in
    ap answer.Granted (λ i. record { offset = offsets i; metadata = record { 0 = records i } })
one_answer (Ok (Some span)) (Err why) e = absurd (not_none _ _ (same_figures (answer.Granted span) (answer.Refused why) e))
one_answer (Err why) (Ok None) e =
    absurd (omega (arith, same_number (answer.Refused why) answer.Done e, (number_means.in_range why).0))
one_answer (Err why) (Ok (Some span)) e =
    absurd (not_none _ _ (sym (same_figures (answer.Refused why) (answer.Granted span) e)))
one_answer (Err why) (Err other) e =
    ap answer.Refused (number_means.none_shared why other (same_number (answer.Refused why) (answer.Refused other) e))

-- ---- a last line, told by its number, which no answer has
answer_number : (a : Answer) → refusal_of (says a) ≤ 8
answer_number (Ok None) = omega arith
answer_number (Ok (Some span)) = omega arith
answer_number (Err why) = (number_means.in_range why).1

last_word : (why : Broken) → word_in (broken_text why) ≡ decimal (broken_number why)
unfolding broken_text spaced
last_word why =
    ap (λ (text : List ℕ). word_in text) (sym (append-nil (decimal (broken_number why))))
    ∙ word_first (decimal (broken_number why)) [] (decimal_word _) (spaced_stops [])

pub last_is_no_answer : (why : Broken) (a : Answer) → broken_text why ≢ answer_text a
last_is_no_answer why a e =
    let number : broken_number why ≡ refusal_of (says a) =
    same_decimal _ _ (sym (last_word why) ∙ ap (λ (text : List ℕ). word_in text) e ∙ first_word a) in
    omega (arith, number, (journal_numbers.reader's why).0, answer_number a)

pub one_last : (why other : Broken) → broken_text why ≡ broken_text other → why ≡ other
unfolding broken_text
one_last why other e = journal_numbers.none_shared why other (same_decimal _ _ e)
