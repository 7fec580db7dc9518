-- A reading is given by what it says, and so is the gauge that comes back. Assumes nothing.
use Rattle.std.specs.Prelude.{Result, Ok, Err}
use Rattle.gauge.specs.declared.Reading.{Reading}
use Rattle.answers.specs.declared.Refusal.{Refusal}
use mathlib.Core.Path.{◌≡◌, sym, ap, ◌∙◌}
use Rattle.basics.proofs.Clash.{clash}
use Rattle.tables.specs.Words.{Edition}
use Rattle.answers.proofs.Numbers.{number_means}
use Rattle.gauge.specs.declared.Watch.{Watch}
use Rattle.gauge.specs.declared.Taken.{Taken}
use Rattle.gauge.specs.Rule as rule
use Rattle.gauge.specs.Answers.{Told, watch_of, reading_says}
use Rattle.gauge.specs.OneReading.{OneReading}

one_watch : (a b : Watch) → watch_of a ≡ watch_of b → a ≡ b
one_watch a b e i = record {
  gauge = record { level = ap (λ (x : rule.Watch). x.level) e i; peak = ap (λ (x : rule.Watch). x.peak) e i };
  last = record { 0 = ap (λ (x : rule.Watch). x.last) e i };
}

one_answer : (a b : Result Reading Refusal) → reading_says a ≡ reading_says b → a ≡ b
one_answer (Ok r) (Ok q) e =
    let fills : r.fill ≡ q.fill = cc in
    let levels : r.level ≡ q.level = cc in
    let peaks : r.peak ≡ q.peak = cc in
    let nets : r.net ≡ q.net = cc in
    ap Ok (λ i. record { fill = fills i; level = levels i; peak = peaks i; net = nets i })
one_answer (Ok r) (Err why) e = clash (cc)
one_answer (Err why) (Ok q) e = clash (cc)
one_answer (Err why) (Err other) e = ap Err (number_means.none_shared why other (cc))

one_taken : (a b : Taken) → ◌≡◌ {A = Told × rule.Watch} (reading_says a.answer, watch_of a.watch) (reading_says b.answer, watch_of b.watch) → a ≡ b
one_taken a b e i = record {
  answer = one_answer a.answer b.answer (ap (λ (x : Told × rule.Watch). x.0) e) i;
  watch = one_watch a.watch b.watch (ap (λ (x : Told × rule.Watch). x.1) e) i;
}

pub one_reading : (E : Edition) → OneReading E
one_reading E = record {
  of_store = λ w g a b p q. one_taken a b (p.exact ∙ sym q.exact);
  of_told = λ g told a b p q. one_taken a b (p ∙ sym q);
  of_begun = λ a b p q. one_watch a b (p ∙ sym q);
}
