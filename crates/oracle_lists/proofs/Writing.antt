-- Every number has a text, every row of numbers too, and any digits are a number; and what a tally that adds up tells. Assumes nothing.
use Prim.Native.Nat.{ℕ, zero, suc, ◌+◌, ◌*◌, ◌/◌, ◌-◌, ◌%◌, ◌^◌, ◌≤◌, ◌<◌}
use mathlib.Core.Path.{◌≡◌, sym, subst}
use mathlib.Core.Logic.{◌≢◌, ◌↔◌}
use mathlib.Core.List.{List, [], ◌∷◌, ◌++◌, append_assoc, append-nil}
use native.Mathlib.Omega.{arith}
use lib.ListN.{length, get_or}
use Rattle.std.specs.Prelude.{None, Some}
use Rattle.basics.proofs.Decided.{below, beyond, below?}
use Rattle.oracle_lists.specs.declared.tally.Tally.{Tally}
use Rattle.oracle_lists.specs.Facts.{Decimal, one_digit, digit_more, Numbers, none, number_more, Written, RowWritten, AddsUp}

-- the digits before the last, then the last
longer : (n : ℕ) → Written (n / 10) → Written n
longer n w =
    let whole : 10 * (n / 10) + n % 10 ≡ n = omega arith in
    subst (λ (m : ℕ). Written m) whole record { text = w.text ++ ((48 + n % 10) ∷ []); decimal = digit_more w.decimal (omega arith) }

written_to : (most n : ℕ) → n ≤ most → Written n
written_to zero n h = record { text = (48 + n) ∷ []; decimal = one_digit {k = n} (omega arith) }
written_to (suc most) n h = elim (below? n 10) [
  | below p e ↦ record { text = (48 + n) ∷ []; decimal = one_digit {k = n} p }
  | beyond p e ↦ longer n (written_to most (n / 10) (omega arith))
]

pub number_written : (n : ℕ) → Written n
number_written n = written_to n n (omega arith)

-- the numbers ms after those that are written
more_written : {text ns : List ℕ} → Numbers text ns → (ms : List ℕ) → ((i : ℕ) → i < length ms → get_or ms i 0 < 2 ^ 32) → RowWritten (ns ++ ms)
more_written {text} {ns} p [] h = subst (λ (l : List ℕ). RowWritten l) (sym (append-nil ns)) record { text = text; numbers = p }
more_written {text} {ns} p (m ∷ ms) h =
    let w = number_written m in
    let next = number_more p w.decimal (h 0 (omega arith)) in
    subst (λ (l : List ℕ). RowWritten l) (append_assoc ns (m ∷ []) ms) (more_written {text = text ++ (32 ∷ (number_written m).text)} {ns = ns ++ (m ∷ [])} next ms (λ i inside. h (suc i) (omega arith)))

pub row_written : (ns : List ℕ) → ((i : ℕ) → i < length ns → get_or ns i 0 < 2 ^ 32) → RowWritten ns
row_written ns h = more_written none ns h

pub hides_none : (t : Tally) → AddsUp t → t.first ≡ None → t.agreed + t.listed ≡ t.rows
hides_none t a e = omega (arith, a.sum, a.named.0 e)

pub names_none : (t : Tally) → AddsUp t → t.agreed + t.listed ≡ t.rows → t.first ≡ None
names_none t a e = a.named.1 (omega (arith, a.sum))

pub adds_up_exactly : (t : Tally) → AddsUp t ↔ ((t.agreed + t.listed + t.other ≡ t.rows) × ((t.first ≡ None) ↔ (t.other ≡ 0)) × (t.first ≢ Some 0))
adds_up_exactly t = (λ a. (a.sum, a.named, a.numbered), λ h. record { sum = h.0; named = h.1; numbered = h.2 })

-- ---- any digits are a number
abbrev AllDigits : List ℕ → Type 0
AllDigits text = (i : ℕ) → i < length text → (48 ≤ get_or text i 0) × (get_or text i 0 ≤ 57)

is_digit : (b : ℕ) → (48 ≤ b) × (b ≤ 57) → 48 + (b - 48) ≡ b
is_digit b h = omega (arith, h.0)

digits_after : {text : List ℕ} {n : ℕ} → Decimal text n → (more : List ℕ) → AllDigits more → (m : ℕ) × Decimal (text ++ more) m
digits_after {text} {n} p [] h = (n, subst (λ (l : List ℕ). Decimal l n) (sym (append-nil text)) p)
digits_after {text} {n} p (b ∷ bs) h =
    let digit : (48 ≤ b) × (b ≤ 57) = h 0 (omega arith) in
    let k = b - 48 in
    let one_more = digit_more {k = k} p (omega (arith, digit.0, digit.1)) in
    let it = subst (λ (c : ℕ). Decimal (text ++ (c ∷ [])) (10 * n + k)) (is_digit b digit) one_more in
    let all = digits_after {text = text ++ (b ∷ [])} {n = 10 * n + k} it bs (λ i inside. h (suc i) (omega arith)) in
    (all.0, subst (λ (l : List ℕ). Decimal l all.0) (append_assoc text (b ∷ []) bs) all.1)

pub any_digits : (text : List ℕ) → 1 ≤ length text → AllDigits text → (n : ℕ) × Decimal text n
any_digits [] h d = absurd (omega arith)
any_digits (b ∷ bs) h d =
    let digit : (48 ≤ b) × (b ≤ 57) = d 0 (omega arith) in
    let k = b - 48 in
    let first = one_digit {k = k} (omega (arith, digit.0, digit.1)) in
    let it = subst (λ (c : ℕ). Decimal (c ∷ []) k) (is_digit b digit) first in
    digits_after it bs (λ i inside. d (suc i) (omega arith))
