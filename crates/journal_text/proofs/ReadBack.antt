-- What is written is read: a word, a number, a call. Assumes nothing.
use Prim.Native.Nat.{ℕ, ◌+◌, ◌/◌, ◌%◌, ◌^◌, ◌≤◌, ◌<◌}
use native.Mathlib.Numerals.{one-add}
use native.Mathlib.Omega.{arith}
use mathlib.Core.Path.{◌≡◌, refl, sym, ap, ap₂, ◌∙◌}
use mathlib.Core.Bool.{Bool, true, false}
use mathlib.Core.List.{List, [], ◌∷◌, ◌++◌}
use lib.ListN.{length, take, drop, get_or}
use lib.Seq.{take_at, drop_at}
use borrow.Author.Tests.{lt-ltb, le-ltb, le-leb, eq-eqb, ne_eqb, not-true}
use Rattle.calls.specs.Values.{Fits}
use Rattle.calls.specs.declared.Call.{Call}
use Rattle.calls.specs.declared.Call.TheVariants.{Take, HandBack, SetUp, Reset}
use Rattle.journal_text.specs.Decimal.{decimal, spaced}
use Rattle.journal_text.specs.Texts.{take_word, back_word, set_up_word, reset_word, text_of}
use Rattle.journal_text.specs.Words.{is_blank, is_ink, is_digit, leading, only_blanks, trimmed, word_in, behind_word}
use Rattle.journal_text.specs.Lines.{Value, Is, Holds, valued, number_of, ended, last_number, holds, holds_two, resets, call_in, line_in}
use Rattle.journal_text.proofs.Scanning.{all_first}
use Rattle.journal_text.proofs.Decimals.{decimal_digit, decimal_more, of_tenths, has_digits, makes_up}

-- ---- bytes in front
-- all of a text, and none of what stands behind it
pub leading_append : (such : ℕ → Bool) (a b : List ℕ) → leading such a ≡ length a → leading such b ≡ 0 → leading such (a ++ b) ≡ length a
leading_append such [] b all none = none
leading_append such (x ∷ a) b all none =
    let here = all_first such x a (such x) refl all in
    rw here.0 (omega (arith, leading_append such a b here.1 none))

-- all of both
all_append : (such : ℕ → Bool) (a b : List ℕ) → leading such a ≡ length a → leading such b ≡ length b → leading such (a ++ b) ≡ length (a ++ b)
all_append such [] b all more = more
all_append such (x ∷ a) b all more =
    let here = all_first such x a (such x) refl all in
    rw here.0 (omega (arith, all_append such a b here.1 more))

-- ---- words
-- a word's bytes are ink, and there is one at least
pub record Word (text : List ℕ) : Type 0 where
  pub some : 1 ≤ length text
  pub ink : leading is_ink text ≡ length text

-- what begins with one has no blank in front
no_blank : (a b : List ℕ) → Word a → leading is_blank (a ++ b) ≡ 0
unfolding is_ink
no_blank [] b w = absurd (omega (arith, w.some))
no_blank (x ∷ a) b w =
    let here : is_blank x ≡ false = not-true (is_blank x) (all_first is_ink x a (is_ink x) refl w.ink).0 in
    rw here

module _ (a b : List ℕ) (w : Word a) (next : leading is_ink b ≡ 0) where
  trimmed_there : trimmed (a ++ b) ≡ a ++ b
  unfolding trimmed
  trimmed_there = rw (no_blank a b w)

  pub word_first : word_in (a ++ b) ≡ a
  unfolding word_in
  word_first =
      ap (λ (text : List ℕ). take (leading is_ink text) text) trimmed_there
      ∙ ap (λ (n : ℕ). take n (a ++ b)) (leading_append is_ink a b w.ink next)
      ∙ take_at a b (length a) refl

  pub word_behind : behind_word (a ++ b) ≡ b
  unfolding behind_word
  word_behind =
      ap (λ (text : List ℕ). drop (leading is_ink text) text) trimmed_there
      ∙ ap (λ (n : ℕ). drop n (a ++ b)) (leading_append is_ink a b w.ink next)
      ∙ drop_at a b (length a) refl

-- a space in front makes no difference
trimmed_space : (text : List ℕ) → trimmed (32 ∷ text) ≡ trimmed text
unfolding trimmed is_blank
trimmed_space text = simp one-add

pub word_space : (text : List ℕ) → word_in (32 ∷ text) ≡ word_in text
unfolding word_in
word_space text = ap (λ (t : List ℕ). take (leading is_ink t) t) (trimmed_space text)

pub behind_space : (text : List ℕ) → behind_word (32 ∷ text) ≡ behind_word text
unfolding behind_word
behind_space text = ap (λ (t : List ℕ). drop (leading is_ink t) t) (trimmed_space text)

-- ---- numbers
digit_is : (k : ℕ) → k < 10 → is_digit (48 + k) ≡ true
unfolding is_digit
digit_is k h = rw (le-ltb (48 + k) 48 (omega arith)) (le-leb (48 + k) 57 (omega arith))

digit_ink : (k : ℕ) → k < 10 → is_ink (48 + k) ≡ true
unfolding is_ink is_blank
digit_ink k h = rw (ne_eqb (48 + k) 32 (λ e. omega arith), ne_eqb (48 + k) 9 (λ e. omega arith), ne_eqb (48 + k) 13 (λ e. omega arith))

-- what each digit is, all of a number's are
all_digits : (such : ℕ → Bool) → ((k : ℕ) → k < 10 → such (48 + k) ≡ true) → (n : ℕ) → leading such (decimal n) ≡ length (decimal n)
all_digits such each = of_tenths (λ n. leading such (decimal n) ≡ length (decimal n)) one more
  where
    one_digit : (k : ℕ) → k < 10 → leading such ((48 + k) ∷ []) ≡ 1
    one_digit k h = rw (each k h)

    one : (n : ℕ) → n < 10 → leading such (decimal n) ≡ length (decimal n)
    one n h = rw (decimal_digit n h) (one_digit n h)

    more : (n : ℕ) → 10 ≤ n → leading such (decimal (n / 10)) ≡ length (decimal (n / 10)) → leading such (decimal n) ≡ length (decimal n)
    more n h tenth = rw (decimal_more n h) (all_append such (decimal (n / 10)) ((48 + n % 10) ∷ []) tenth (one_digit (n % 10) (omega arith)))

pub all_are_digits : (n : ℕ) → leading is_digit (decimal n) ≡ length (decimal n)
all_are_digits n = all_digits is_digit digit_is n

pub decimal_word : (n : ℕ) → Word (decimal n)
decimal_word n = record { some = has_digits n; ink = all_digits is_ink digit_ink n }

pub decimal_read : (n : ℕ) → n < 2 ^ 32 → number_of (decimal n) ≡ Is n
unfolding number_of valued
decimal_read n h =
    rw (
      ne_eqb (length (decimal n)) 0 (λ e. omega (arith, has_digits n, e)),
      eq-eqb (leading is_digit (decimal n)) (length (decimal n)) (all_are_digits n),
      makes_up n,
      lt-ltb n (2 ^ 32) h,
    )

-- numbers behind spaces: the first, and the others
pub spaced_stops : (ns : List ℕ) → leading is_ink (spaced ns) ≡ 0
unfolding spaced is_ink is_blank
spaced_stops [] = refl
spaced_stops (n ∷ ns) = refl

pub spaced_word : (n : ℕ) (ns : List ℕ) → word_in (spaced (n ∷ ns)) ≡ decimal n
unfolding spaced
spaced_word n ns = word_space (decimal n ++ spaced ns) ∙ word_first (decimal n) (spaced ns) (decimal_word n) (spaced_stops ns)

pub spaced_behind : (n : ℕ) (ns : List ℕ) → behind_word (spaced (n ∷ ns)) ≡ spaced ns
unfolding spaced
spaced_behind n ns = behind_space (decimal n ++ spaced ns) ∙ word_behind (decimal n) (spaced ns) (decimal_word n) (spaced_stops ns)

nothing_there : only_blanks (spaced []) ≡ true
unfolding spaced only_blanks
nothing_there = refl

last_read : (n : ℕ) → n < 2 ^ 32 → last_number (spaced (n ∷ [])) ≡ Is n
unfolding last_number ended
last_read n h =
    ap₂ (λ (word behind : List ℕ). ended (number_of word) behind) (spaced_word n []) (spaced_behind n [])
    ∙ ap (λ (v : Value). ended v (spaced [])) (decimal_read n h)
    ∙ rw nothing_there

-- a call with two numbers
two_read : (call : ℕ → ℕ → Call) (n m : ℕ) → n < 2 ^ 32 → m < 2 ^ 32
    → holds_two call (number_of (word_in (spaced (n ∷ m ∷ [])))) (behind_word (spaced (n ∷ m ∷ []))) ≡ Holds (call n m)
unfolding holds holds_two
two_read call n m h k =
    ap₂ (λ (word behind : List ℕ). holds_two call (number_of word) behind) (spaced_word n (m ∷ [])) (spaced_behind n (m ∷ []))
    ∙ ap (λ (v : Value). holds_two call v (spaced (m ∷ []))) (decimal_read n h)
    ∙ ap (λ (v : Value). holds (call n) v) (last_read m k)

-- ---- a call
-- a line that begins with a word, and with no mark of a comment, is judged by it
word_judged : (x : ℕ) (a b : List ℕ) → Word (x ∷ a) → leading is_ink b ≡ 0 → (x ≡ 35 → ⊥) → line_in ((x ∷ a) ++ b) ≡ call_in (x ∷ a) b
unfolding line_in only_blanks
word_judged x a b w next mark =
    let text = (x ∷ a) ++ b in
    let some : leading is_blank text ≡ length text → ⊥ = λ e. omega (arith, no_blank (x ∷ a) b w, e) in
    let first : get_or (trimmed text) 0 0 ≡ 35 → ⊥ =
    λ e. mark (sym (ap (λ (t : List ℕ). get_or t 0 0) (trimmed_there (x ∷ a) b w next)) ∙ e) in
    rw (ne_eqb (leading is_blank text) (length text) some, ne_eqb (get_or (trimmed text) 0 0) 35 first)
    (ap₂ (λ (word behind : List ℕ). call_in word behind) (word_first (x ∷ a) b w next) (word_behind (x ∷ a) b w next))

-- the four words
set_up_word_lem : Word set_up_word
unfolding is_ink is_blank
set_up_word_lem = record { some = omega arith; ink = refl }

take_word_lem : Word take_word
unfolding is_ink is_blank
take_word_lem = record { some = omega arith; ink = refl }

back_word_lem : Word back_word
unfolding is_ink is_blank
back_word_lem = record { some = omega arith; ink = refl }

reset_word_lem : Word reset_word
unfolding is_ink is_blank
reset_word_lem = record { some = omega arith; ink = refl }

pub reads_back : (c : Call) → Fits c → line_in (text_of c) ≡ Holds c
unfolding text_of call_in holds resets
reads_back (Take size) fits =
    word_judged 116 (97 ∷ 107 ∷ 101 ∷ []) (spaced (size.0 ∷ [])) take_word_lem (spaced_stops _) (λ e. omega arith)
    ∙ ap (λ (v : Value). holds (λ n. Take record { 0 = n }) v) (last_read size.0 fits.0)
reads_back (HandBack span) fits =
    let numbers = span.metadata.0 ∷ span.offset ∷ [] in
    word_judged 98 (97 ∷ 99 ∷ 107 ∷ []) (spaced numbers) back_word_lem (spaced_stops numbers) (λ e. omega arith)
    ∙ two_read (λ n m. HandBack record { offset = m; metadata = record { 0 = n } }) span.metadata.0 span.offset fits.0 fits.1.0
reads_back (SetUp size count) fits =
    let numbers = size.0 ∷ count ∷ [] in
    word_judged 115 (101 ∷ 116 ∷ 117 ∷ 112 ∷ []) (spaced numbers) set_up_word_lem (spaced_stops numbers) (λ e. omega arith)
    ∙ two_read (λ n m. SetUp record { 0 = n } m) size.0 count fits.0 fits.1.0
reads_back Reset fits =
    word_judged 114 (101 ∷ 115 ∷ 101 ∷ 116 ∷ []) (spaced []) reset_word_lem (spaced_stops []) (λ e. omega arith)
    ∙ rw nothing_there
