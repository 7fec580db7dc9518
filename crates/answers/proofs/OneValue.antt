-- An answer of the code is given by what it says. Assumes nothing.
use mathlib.Core.Path.{◌≡◌, refl, sym, ap, ◌∙◌}
use mathlib.Core.List.{List, map}
use Prim.Native.Nat.{ℕ, zero, suc, ◌+◌, ◌≤◌, ◌<◌}
use native.Mathlib.Omega.{arith}
use mathlib.Core.Logic.{◌≢◌}
use lib.ListN.{length, get_or}
use Rattle.basics.proofs.Decided.{Same, same, differ, same?}
use Rattle.basics.proofs.Lists.{same_below}
use Rattle.basics.proofs.Clash.{clash}
use Rattle.std.specs.Prelude.{Result, Ok, Err}
use Rattle.ledger.specs.Ledger.{Answer, classes, refused, numbers_from}
use Rattle.small_float.specs.declared.Size.{Size}
use Rattle.answers.specs.declared.Refusal.{Refusal}
use Rattle.answers.specs.declared.Allocation.{Allocation}
use Rattle.answers.specs.declared.StorageReport.{StorageReport}
use Rattle.answers.specs.declared.Fill.{Fill}
use Rattle.answers.specs.declared.FullAnswer.{FullAnswer}
use Rattle.answers.specs.Refusals.{number_of}
use Rattle.answers.specs.Answers.{says, start_says, take_says, size_says, report_says, fill_says}
use Rattle.answers.specs.Answers.{columns, outcome_says, full_says, AllPlaces, ZeroIfRefused, FiguresOfZero}
use Rattle.answers.specs.OneValue.{OneValue}
use Rattle.answers.proofs.Numbers.{number_means}

-- one number, one refusal
same_refusal : (why other : Refusal) → refused (number_of why) ≡ refused (number_of other) → why ≡ other
same_refusal why other e = number_means.none_shared why other (cc)

-- an answer is given by what it says, if what is told is, and tells no refusal
of_said : {T : Type 0} (told : T → Answer) → ((x y : T) → told x ≡ told y → x ≡ y) → ((x : T) (n : ℕ) → told x ≢ refused n)
    → (a b : Result T Refusal) → says told a ≡ says told b → a ≡ b
of_said told one none (Ok x) (Ok y) e = ap Ok (one x y e)
of_said told one none (Ok x) (Err why) e = absurd (none x (number_of why) e)
of_said told one none (Err why) (Ok y) e = absurd (none y (number_of why) (sym e))
of_said told one none (Err why) (Err other) e = ap Err (same_refusal why other e)

of_done : (a b : Result Unit Refusal) → start_says a ≡ start_says b → a ≡ b
of_done = of_said _ (λ x y e. refl) (λ x n e. clash (cc))

one_span : (span other : Allocation) → take_says (Ok span) ≡ take_says (Ok other) → span ≡ other
one_span span other e =
    let offsets : span.offset ≡ other.offset = cc in
    let records : span.metadata.0 ≡ other.metadata.0 = cc in
    λ i. record { offset = offsets i; metadata = record { 0 = records i } }

one_size : (s t : Size) → size_says (Ok s) ≡ size_says (Ok t) → s ≡ t
one_size s t e = let lengths : s.0 ≡ t.0 = cc in λ i. record { 0 = lengths i }

one_report : (r q : StorageReport) → report_says (Ok r) ≡ report_says (Ok q) → r ≡ q
one_report r q e =
    let totals : r.total_free_space.0 ≡ q.total_free_space.0 = cc in
    let largest : r.largest_free_region.0 ≡ q.largest_free_region.0 = cc in
    λ i. record { total_free_space = record { 0 = totals i }; largest_free_region = record { 0 = largest i } }

one_fill : (f g : Fill) → fill_says (Ok f) ≡ fill_says (Ok g) → f ≡ g
one_fill f g e =
    let units : f.live.0 ≡ g.live.0 = cc in
    let fills : f.fill ≡ g.fill = cc in
    λ i. record { live = record { 0 = units i }; fill = fills i }

-- ---- the full report: columns that say the same, of 256 places each, are the same
rows_same : (f g : ℕ → ℕ × ℕ) (n r : ℕ) → map f (numbers_from r n) ≡ map g (numbers_from r n)
    → (c : ℕ) → r ≤ c → c < r + n → f c ≡ g c
unfolding numbers_from
rows_same f g zero r e c low high = absurd (omega arith)
rows_same f g (suc n) r e c low high = go (same? c r) (rows_same f g n (suc r) (cc) c)
  where
    go : Same c r → (suc r ≤ c → c < suc r + n → f c ≡ g c) → f c ≡ g c
    go (same p q) later = let first : f r ≡ g r = cc in ap f p ∙ first ∙ sym (ap g p)
    go (differ p q) later = later (omega arith) (omega arith)

of_columns : (sizes counts others numbers : List ℕ) → length sizes ≡ 256 → length counts ≡ 256 → length others ≡ 256 → length numbers ≡ 256
    → classes (columns sizes counts) ≡ classes (columns others numbers) → (sizes ≡ others) × (counts ≡ numbers)
of_columns sizes counts others numbers a b c d e = (
  same_below sizes others (a ∙ sym c) (λ i l. ap (λ (x : ℕ × ℕ). x.0) (row i (omega (arith, a, l)))),
  same_below counts numbers (b ∙ sym d) (λ i l. ap (λ (x : ℕ × ℕ). x.1) (row i (omega (arith, b, l)))),
)
  where
    all_rows : columns sizes counts ≡ columns others numbers
    all_rows = cc

    row : (i : ℕ) → i < 256 → ◌≡◌ {A = ℕ × ℕ} (get_or sizes i 0, get_or counts i 0) (get_or others i 0, get_or numbers i 0)
    row i l =
        rows_same (λ (c : ℕ). (get_or sizes c 0, get_or counts c 0)) (λ (c : ℕ). (get_or others c 0, get_or numbers c 0)) 256 0 all_rows i
        (omega arith) (omega arith)

full_parts : (o p : Result Unit Refusal) (sizes counts others numbers : List ℕ)
    → (length sizes ≡ 256) × (length counts ≡ 256) → (length others ≡ 256) × (length numbers ≡ 256)
    → ZeroIfRefused o sizes counts → ZeroIfRefused p others numbers → outcome_says o sizes counts ≡ outcome_says p others numbers
    → (o ≡ p) × (sizes ≡ others) × (counts ≡ numbers)
full_parts (Ok _) (Ok _) sizes counts others numbers a b z y e =
    let both = of_columns sizes counts others numbers a.0 a.1 b.0 b.1 e in
    (refl, both.0, both.1)
full_parts (Ok _) (Err why) sizes counts others numbers a b z y e = clash (cc)
full_parts (Err why) (Ok _) sizes counts others numbers a b z y e = clash (cc)
full_parts (Err why) (Err other) sizes counts others numbers a b z y e =
    (ap Err (same_refusal why other e), z.0 ∙ sym y.0, z.1 ∙ sym y.1)

of_full : (a b : FullAnswer) → AllPlaces a → AllPlaces b → FiguresOfZero a → FiguresOfZero b → full_says a ≡ full_says b → a ≡ b
of_full a b p q z y e =
    let same_parts = full_parts a.outcome b.outcome a.sizes a.counts b.sizes b.counts p q z y e in
    λ i. record { outcome = same_parts.0 i; sizes = same_parts.1 i; counts = same_parts.2 i }

pub one_value : OneValue
one_value = record {
  of_start = of_done;
  of_take = of_said _ one_span (λ x n e. clash (cc));
  of_back = of_done;
  of_size = of_said _ one_size (λ x n e. clash (cc));
  of_report = of_said _ one_report (λ x n e. clash (cc));
  of_fill = of_said _ one_fill (λ x n e. clash (cc));
  of_audit = of_done;
  of_full = of_full;
}
