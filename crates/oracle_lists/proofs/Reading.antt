-- A row that is written is read, digit by digit and number by number. Assumes nothing.
use Prim.Native.Nat.{ℕ, ◌+◌, ◌-◌, ◌*◌, ◌^◌, ◌≤◌, ◌<◌}
use mathlib.Core.Path.{◌≡◌, refl, sym, ap, ◌∙◌, subst}
use mathlib.Core.Bool.{true, false}
use mathlib.Core.List.{List, [], ◌∷◌, ◌++◌}
use native.Mathlib.Omega.{arith}
use lib.ListN.{length, length-append}
use borrow.Author.Tests.{le-ltb, lt-leb, ne_eqb}
use Rattle.oracle_lists.specs.declared.rows.State.{State}
use Rattle.oracle_lists.specs.declared.rows.State.TheVariants.{Between, Within, Opened, Whole, Spoiled}
use Rattle.oracle_lists.specs.declared.rows.Reader.{Reader}
use Rattle.oracle_lists.specs.Rows.{fresh, begun, ended, with_field, with_digit, with_figure, continued, fed_at, fed, fed_all, is_whole, ends_well}
use Rattle.oracle_lists.specs.Facts.{Decimal, one_digit, digit_more, Numbers, none, number_more, with_number, with_numbers, row_text, row_read}

-- the bytes take a reader to another, and no row ends on the way
pub data Quiet : Reader → List ℕ → Reader → Type 0 where
  done : {r : Reader} → Quiet r [] r
  next : {r s t : Reader} (byte : ℕ) {bytes : List ℕ}
      → fed r byte ≡ s
      → is_whole s.state ≡ false
      → Quiet s bytes t
      → Quiet r (byte ∷ bytes) t

quiet_append : {r s t : Reader} {xs ys : List ℕ} → Quiet r xs s → Quiet s ys t → Quiet r (xs ++ ys) t
quiet_append done q = q
quiet_append (next byte e w p) q = next byte e w (quiet_append p q)

-- the reader with another last number, after a digit
abbrev grown : Reader → ℕ → Reader
grown r n = record { state = Within; letter = r.letter; fields = r.fields; a = r.a; b = r.b; c = r.c; d = n }

figure_read : (r : Reader) (k : ℕ) → k < 10 → 10 * r.d + k < 2 ^ 32 → with_figure r (48 + k) ≡ grown r (10 * r.d + k)
unfolding with_figure with_digit
figure_read r k h fits =
    let same : (48 + k) - 48 ≡ k = omega arith in
    rw (le-ltb (48 + k) 48 (omega arith), le-ltb 57 (48 + k) (omega arith), same, le-ltb 4294967295 (10 * r.d + k) (omega arith))

next_digit : (r : Reader) (n k : ℕ) → 0 < r.fields → k < 10 → 10 * n + k < 2 ^ 32 → fed (grown r n) (48 + k) ≡ grown r (10 * n + k)
unfolding fed_at continued
next_digit r n k f h fits =
    rw (ne_eqb (48 + k) 10 (λ e. omega arith), ne_eqb (48 + k) 32 (λ e. omega arith), ne_eqb r.fields 0 (λ e. omega arith))
    (figure_read (grown r n) k h fits)

-- a row whose next number has begun
abbrev opened : Reader → Reader
opened r = record { state = Opened; letter = r.letter; fields = r.fields + 1; a = r.b; b = r.c; c = r.d; d = 0 }

digits_read : (r : Reader) {text : List ℕ} {n : ℕ} → Decimal text n → n < 2 ^ 32 → Quiet (opened r) text (with_number r n)
unfolding fed_at
digits_read r (one_digit {k} h) fits =
    let same : 10 * 0 + k ≡ k = omega arith in
    next (48 + k) (figure_read (opened r) k h (omega arith) ∙ ap (with_number r) same) refl done
digits_read r (digit_more {text} {n} {k} p h) fits =
    let last = next_digit (with_number r n) n k (omega arith) h fits in
    quiet_append (digits_read r p (omega arith)) (next (48 + k) last refl done)

space_read : (r : Reader) → r.state ≡ Within → r.fields < 4 → fed r 32 ≡ opened r
unfolding fed_at continued with_field
space_read r e h = ap (λ (s : State). fed_at s r 32) e ∙ rw (lt-leb 4 r.fields h)

numbers_within : (r : Reader) (ns : List ℕ) → r.state ≡ Within → (with_numbers r ns).state ≡ Within
unfolding with_numbers
numbers_within r [] e = e
numbers_within r (n ∷ ns) e = numbers_within (with_number r n) ns refl

numbers_counted : (r : Reader) (ns : List ℕ) → (with_numbers r ns).fields ≡ r.fields + length ns
unfolding with_numbers
numbers_counted r [] = omega arith
numbers_counted r (n ∷ ns) = omega (arith, numbers_counted (with_number r n) ns)

number_last : (r : Reader) (ns : List ℕ) (n : ℕ) → with_numbers r (ns ++ (n ∷ [])) ≡ with_number (with_numbers r ns) n
unfolding with_numbers
number_last r [] n = refl
number_last r (m ∷ ns) n = number_last (with_number r m) ns n

numbers_read : (r : Reader) {text ns : List ℕ}
    → Numbers text ns
    → r.state ≡ Within
    → r.fields + length ns ≤ 4
    → Quiet r text (with_numbers r ns)
unfolding with_numbers
numbers_read r none e h = done
numbers_read r (number_more {text} {ns} {number} {n} p q fits) e h =
    let most : r.fields + length ns < 4 = omega (arith, length-append ns (n ∷ [])) in
    let before = with_numbers r ns in
    let space = space_read before (numbers_within r ns e) (omega (arith, numbers_counted r ns)) in
    subst (λ (t : Reader). Quiet r (text ++ (32 ∷ number)) t) (sym (number_last r ns n))
    (quiet_append (numbers_read r p e (omega arith)) (next 32 space refl (digits_read before q fits)))

newline_read : (r : Reader) → r.state ≡ Within → fed r 10 ≡ ended r
unfolding fed_at continued
newline_read r e = ap (λ (s : State). fed_at s r 10) e

begun_anew : (s : State) (r : Reader) (byte : ℕ) → ends_well s ≡ true → fed_at s r byte ≡ begun byte
unfolding fed_at
begun_anew Between r byte e = refl
begun_anew Within r byte e = cc
begun_anew Opened r byte e = cc
begun_anew Whole r byte e = refl
begun_anew Spoiled r byte e = cc

letter_read : (r : Reader) (letter : ℕ) → ends_well r.state ≡ true → 97 ≤ letter → letter ≤ 122 → fed r letter ≡ fresh Within letter
unfolding begun
letter_read r letter e h k = begun_anew r.state r letter e ∙ rw (le-ltb letter 97 h, le-ltb 122 letter k)

-- all but the newline is read before the row ends
pub row_quiet : (r : Reader) (letter : ℕ) {text ns : List ℕ}
    → ends_well r.state ≡ true
    → 97 ≤ letter
    → letter ≤ 122
    → Numbers text ns
    → length ns ≤ 4
    → Quiet r (letter ∷ text) (with_numbers (fresh Within letter) ns)
row_quiet r letter ready low high numbers most =
    let start = letter_read r letter ready low high in
    next letter start refl (numbers_read (fresh Within letter) numbers refl (omega arith))

-- and the newline ends it
pub row_ended : (letter : ℕ) (ns : List ℕ) → fed (with_numbers (fresh Within letter) ns) 10 ≡ row_read letter ns
row_ended letter ns = newline_read _ (numbers_within (fresh Within letter) ns refl)

quiet_fed : {r s : Reader} {bytes : List ℕ} (byte : ℕ) → Quiet r bytes s → fed_all r (bytes ++ (byte ∷ [])) ≡ fed s byte
unfolding fed_all
quiet_fed byte done = refl
quiet_fed byte (next first {bytes} e w p) = ap (λ (x : Reader). fed_all x (bytes ++ (byte ∷ []))) e ∙ quiet_fed byte p

pub row_read_lem : (r : Reader) (letter : ℕ) {text ns : List ℕ}
    → ends_well r.state ≡ true
    → 97 ≤ letter
    → letter ≤ 122
    → Numbers text ns
    → length ns ≤ 4
    → fed_all r (row_text letter text) ≡ row_read letter ns
row_read_lem r letter {text} {ns} ready low high numbers most =
    quiet_fed 10 (row_quiet r letter ready low high numbers most) ∙ row_ended letter ns
