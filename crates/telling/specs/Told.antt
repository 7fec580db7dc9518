-- The ledger's answers, as which every call's answer is put, in the numbers that a row can be held against. Assumes nothing.
use Rattle.std.specs.Prelude.{cond, ℕ, List, eqb, leb, get_or}
use Rattle.basics.specs.Sum.{tally}
use Rattle.ledger.specs.Ledger as ledger
use Rattle.call_values.specs.declared.answer.Answer.{Answer}
use Rattle.call_values.specs.declared.answer.Answer.TheVariants as answer

-- of a full report, the value and the count of each class, is told what is asked of it
abbrev pub told_as : (List (ℕ × ℕ) → Answer) → ledger.Answer → Answer
told_as asked (ledger.granted offset number) = answer.Granted offset number
told_as asked ledger.done = answer.Done
told_as asked (ledger.length_is length) = answer.Length length
told_as asked (ledger.reported total largest) = answer.Free total largest
told_as asked (ledger.classes report) = asked report
told_as asked (ledger.refused number) = answer.Refused number

-- all the other calls
abbrev pub told : ledger.Answer → Answer
told a = told_as (λ report. answer.Nothing) a

-- one class's value, and how many free regions it holds
abbrev pub class_in : (class : ℕ) → List (ℕ × ℕ) → Answer
class_in class report = cond (leb 256 class) answer.Nothing (answer.Regions (get_or report class (0, 0)).0 (get_or report class (0, 0)).1)

-- how many classes hold something
abbrev pub one_if_held : ℕ → ℕ
one_if_held regions = cond (eqb regions 0) 0 1

abbrev pub classes_held : List (ℕ × ℕ) → ℕ
classes_held report = tally (λ (class : ℕ × ℕ). one_if_held class.1) report

abbrev pub held_in : List (ℕ × ℕ) → Answer
held_in report = answer.Held (classes_held report)
