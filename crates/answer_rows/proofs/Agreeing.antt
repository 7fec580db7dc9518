-- An answer is found again from the row that it is put as. Assumes nothing.
use Prim.Native.Nat.{ℕ, ◌≤◌}
use mathlib.Core.Path.{◌≡◌, refl, sym, ap, ◌∙◌}
use Rattle.std.specs.Prelude.{Some}
use mathlib.Core.Logic.{◌≢◌, ◌⊎◌, inl, inr}
use native.Mathlib.Omega.{arith}
use Rattle.basics.proofs.Decided.{same?, same, differ}
use Rattle.oracle_lists.specs.declared.rows.Reader.{Reader}
use Rattle.call_verdicts.specs.declared.Said.{Said}
use Rattle.oracle_lists.specs.declared.tally.Verdict.TheVariants.{Agrees, Listed}
use Rattle.call_verdicts.specs.Verdicts.{call_verdict}
use Rattle.call_verdicts.proofs.Facts.{verdict_facts}
use Rattle.call_values.specs.declared.answer.Answer.{Answer}
use Rattle.call_values.specs.declared.answer.Answer.TheVariants as answer
use Rattle.call_values.specs.declared.call.Call.{Call}
use Rattle.call_values.specs.declared.call.Call.TheVariants as call
use Rattle.answer_rows.specs.Said.{no_grant_said, no_span_said, said_of}
use Rattle.answer_rows.specs.Claims.{answer_in}

-- the answer that a row stands for
abbrev back : Said → Answer
back s = answer_in s.letter s.c s.d

-- what is one row alone
some_is : {r s : Said} → Some r ≡ Some s → r ≡ s
some_is e = cc

letter_is : {r s : Said} → Some r ≡ Some s → r.letter ≡ s.letter
letter_is e = ap (λ (x : Said). x.letter) (some_is e)

from_row : {a : Answer} {r s : Said} → a ≡ back r → Some r ≡ Some s → a ≡ back s
from_row b e = b ∙ ap back (some_is e)

no_grant : (size n : ℕ) (s : Said) → no_grant_said size n ≡ Some s → s.letter ≢ 120 → answer.Refused n ≡ back s
unfolding no_grant_said
no_grant size n s is x = elim (same? n 3) [
  | same p e ↦ absurd (x (sym (letter_is (rw e at is))))
  | differ p e ↦ elim (same? n 4) [
    | same q f ↦ absurd (x (sym (letter_is (rw (e, f) at is))))
    | differ q f ↦ let none = rw (e, f) at is in cc
  ]
]

no_span : (dead elsewhere c d n : ℕ) (s : Said)
    → answer.Refused 5 ≡ answer_in dead c d
    → answer.Refused 8 ≡ answer_in elsewhere c d
    → no_span_said dead elsewhere c d n ≡ Some s
    → answer.Refused n ≡ back s
unfolding no_span_said
no_span dead elsewhere c d n s says-5 says-8 is = elim (same? n 5) [
  | same p e ↦ from_row (ap answer.Refused p ∙ says-5) (rw e at is)
  | differ p e ↦ elim (same? n 8) [
    | same q f ↦ from_row (ap answer.Refused q ∙ says-8) (rw (e, f) at is)
    | differ q f ↦ let none = rw (e, f) at is in cc
  ]
]

told_back : (c : Call) (a : Answer) (s : Said) → said_of c a ≡ Some s → s.letter ≢ 120 → a ≡ back s
told_back c (answer.Granted offset number) s e x = from_row refl e
told_back c (answer.Free total largest) s e x = from_row refl e
told_back c (answer.Regions value regions) s e x = from_row refl e
told_back c (answer.Held classes) s e x = from_row refl e
told_back c answer.Nothing s e x = cc
told_back (call.SetUp size count) answer.Done s e x = from_row refl e
told_back call.Reset answer.Done s e x = from_row refl e
told_back (call.Take size) answer.Done s e x = cc
told_back (call.HandBack offset number) answer.Done s e x = from_row refl e
told_back (call.SizeOf offset number) answer.Done s e x = cc
told_back call.Report answer.Done s e x = cc
told_back (call.ClassOf class) answer.Done s e x = cc
told_back call.ClassesHeld answer.Done s e x = cc
told_back (call.SetUp size count) (answer.Length length) s e x = cc
told_back call.Reset (answer.Length length) s e x = cc
told_back (call.Take size) (answer.Length length) s e x = cc
told_back (call.HandBack offset number) (answer.Length length) s e x = cc
told_back (call.SizeOf offset number) (answer.Length length) s e x = from_row refl e
told_back call.Report (answer.Length length) s e x = cc
told_back (call.ClassOf class) (answer.Length length) s e x = cc
told_back call.ClassesHeld (answer.Length length) s e x = cc
told_back (call.SetUp size count) (answer.Refused n) s e x = cc
told_back call.Reset (answer.Refused n) s e x = cc
told_back (call.Take size) (answer.Refused n) s e x = no_grant size n s e x
told_back (call.HandBack offset number) (answer.Refused n) s e x = no_span 98 119 offset number n s refl refl e
told_back (call.SizeOf offset number) (answer.Refused n) s e x = no_span 117 109 number 0 n s refl refl e
told_back call.Report (answer.Refused n) s e x = cc
told_back (call.ClassOf class) (answer.Refused n) s e x = cc
told_back call.ClassesHeld (answer.Refused n) s e x = cc

three_or_four : (size n : ℕ) (s : Said)
    → no_grant_said size n ≡ Some s
    → (answer.Refused n ≡ answer.Refused 3) ⊎ (answer.Refused n ≡ answer.Refused 4)
unfolding no_grant_said
three_or_four size n s is = elim (same? n 3) [
  | same p e ↦ inl (ap answer.Refused p)
  | differ p e ↦ elim (same? n 4) [
    | same q f ↦ inr (ap answer.Refused q)
    | differ q f ↦ let none = rw (e, f) at is in cc
  ]
]

never_x : {A : Type 0} (dead elsewhere c d n : ℕ) (s : Said)
    → dead ≢ 120
    → elsewhere ≢ 120
    → no_span_said dead elsewhere c d n ≡ Some s
    → s.letter ≡ 120
    → A
unfolding no_span_said
never_x dead elsewhere c d n s other-5 other-8 is x = elim (same? n 5) [
  | same p e ↦ absurd (other-5 (letter_is (rw e at is) ∙ x))
  | differ p e ↦ elim (same? n 8) [
    | same q f ↦ absurd (other-8 (letter_is (rw (e, f) at is) ∙ x))
    | differ q f ↦ let none = rw (e, f) at is in cc
  ]
]

x_back : (c : Call) (a : Answer) (s : Said) → said_of c a ≡ Some s → s.letter ≡ 120 → (a ≡ answer.Refused 3) ⊎ (a ≡ answer.Refused 4)
x_back c (answer.Granted offset number) s e x = absurd (omega (arith, letter_is e))
x_back c (answer.Free total largest) s e x = absurd (omega (arith, letter_is e))
x_back c (answer.Regions value regions) s e x = absurd (omega (arith, letter_is e))
x_back c (answer.Held classes) s e x = absurd (omega (arith, letter_is e))
x_back c answer.Nothing s e x = cc
x_back (call.SetUp size count) answer.Done s e x = absurd (omega (arith, letter_is e))
x_back call.Reset answer.Done s e x = absurd (omega (arith, letter_is e))
x_back (call.Take size) answer.Done s e x = cc
x_back (call.HandBack offset number) answer.Done s e x = absurd (omega (arith, letter_is e))
x_back (call.SizeOf offset number) answer.Done s e x = cc
x_back call.Report answer.Done s e x = cc
x_back (call.ClassOf class) answer.Done s e x = cc
x_back call.ClassesHeld answer.Done s e x = cc
x_back (call.SetUp size count) (answer.Length length) s e x = cc
x_back call.Reset (answer.Length length) s e x = cc
x_back (call.Take size) (answer.Length length) s e x = cc
x_back (call.HandBack offset number) (answer.Length length) s e x = cc
x_back (call.SizeOf offset number) (answer.Length length) s e x = absurd (omega (arith, letter_is e))
x_back call.Report (answer.Length length) s e x = cc
x_back (call.ClassOf class) (answer.Length length) s e x = cc
x_back call.ClassesHeld (answer.Length length) s e x = cc
x_back (call.SetUp size count) (answer.Refused n) s e x = cc
x_back call.Reset (answer.Refused n) s e x = cc
x_back (call.Take size) (answer.Refused n) s e x = three_or_four size n s e
x_back (call.HandBack offset number) (answer.Refused n) s e x = never_x 98 119 offset number n s (λ f. omega arith) (λ f. omega arith) e x
x_back (call.SizeOf offset number) (answer.Refused n) s e x = never_x 117 109 number 0 n s (λ f. omega arith) (λ f. omega arith) e x
x_back call.Report (answer.Refused n) s e x = cc
x_back (call.ClassOf class) (answer.Refused n) s e x = cc
x_back call.ClassesHeld (answer.Refused n) s e x = cc

same_answer : (l c d m e f : ℕ) → l ≡ m → c ≡ e → d ≡ f → answer_in m e f ≡ answer_in l c d
same_answer l c d m e f p q r = sym (rw (p, q, r))

pub agrees_with : (r : Reader) (c : Call) (a : Answer)
    → call_verdict r (said_of c a) ≡ Agrees
    → 97 ≤ r.letter
    → r.letter ≢ 120
    → a ≡ answer_in r.letter r.c r.d
agrees_with r c a e low x =
    let (said, (its, only)) = verdict_facts.agrees_only r (said_of c a) e in
    let told = told_back c a said its (λ f. x (only.0 ∙ f)) in
    told ∙ same_answer _ _ _ _ _ _ only.0 only.1 only.2

pub x_agrees_with : (r : Reader) (c : Call) (a : Answer)
    → call_verdict r (said_of c a) ≡ Agrees
    → r.letter ≡ 120
    → (a ≡ answer.Refused 3) ⊎ (a ≡ answer.Refused 4)
x_agrees_with r c a e is =
    let (said, (its, only)) = verdict_facts.agrees_only r (said_of c a) e in
    x_back c a said its (sym only.0 ∙ is)

-- ---- a listed difference
-- an answer that is put as a row of this letter, which stands for one refusal whatever its numbers are
refused_as : (letter n : ℕ) (c : Call) (a : Answer) (s : Said)
    → said_of c a ≡ Some s
    → letter ≢ 120
    → ((p q : ℕ) → answer_in letter p q ≡ answer.Refused n)
    → s.letter ≡ letter
    → a ≡ answer.Refused n
refused_as letter n c a s row x says is =
    told_back c a s row (λ f. x (sym is ∙ f))
    ∙ ap (λ (l : ℕ). answer_in l s.c s.d) is
    ∙ says s.c s.d

pub listed_is_5_or_8 : (r : Reader) (c : Call) (a : Answer) → call_verdict r (said_of c a) ≡ Listed
    → (((r.letter ≡ 98) ⊎ (r.letter ≡ 117)) × (a ≡ answer.Refused 5))
    ⊎ (((r.letter ≡ 119) ⊎ (r.letter ≡ 109)) × (a ≡ answer.Refused 8))
listed_is_5_or_8 r c a e =
    let (said, (its, only)) = verdict_facts.listed_only r (said_of c a) e in
    go said its only.0 only.2
  where
    go : (s : Said)
        → said_of c a ≡ Some s
        → r.letter ≡ s.letter
        → ((r.letter ≡ 117) ⊎ (r.letter ≡ 109)) ⊎ (((r.letter ≡ 98) ⊎ (r.letter ≡ 119)) × (r.d ≡ s.d))
        → (((r.letter ≡ 98) ⊎ (r.letter ≡ 117)) × (a ≡ answer.Refused 5))
        ⊎ (((r.letter ≡ 119) ⊎ (r.letter ≡ 109)) × (a ≡ answer.Refused 8))
    go s row its (inl (inl u)) = inl (inr u, refused_as 117 5 c a s row (λ f. omega arith) (λ p q. refl) (sym its ∙ u))
    go s row its (inl (inr m)) = inr (inr m, refused_as 109 8 c a s row (λ f. omega arith) (λ p q. refl) (sym its ∙ m))
    go s row its (inr (inl b, same-d)) = inl (inl b, refused_as 98 5 c a s row (λ f. omega arith) (λ p q. refl) (sym its ∙ b))
    go s row its (inr (inr w, same-d)) = inr (inl w, refused_as 119 8 c a s row (λ f. omega arith) (λ p q. refl) (sym its ∙ w))

pub listed_with : (r : Reader) (c : Call) (a : Answer) → call_verdict r (said_of c a) ≡ Listed → a ≡ answer_in r.letter r.c r.d
listed_with r c a e = go (listed_is_5_or_8 r c a e)
  where
    go : (((r.letter ≡ 98) ⊎ (r.letter ≡ 117)) × (a ≡ answer.Refused 5))
        ⊎ (((r.letter ≡ 119) ⊎ (r.letter ≡ 109)) × (a ≡ answer.Refused 8))
        → a ≡ answer_in r.letter r.c r.d
    go (inl (inl b, is)) = is ∙ sym (rw b)
    go (inl (inr u, is)) = is ∙ sym (rw u)
    go (inr (inl w, is)) = is ∙ sym (rw w)
    go (inr (inr m, is)) = is ∙ sym (rw m)
