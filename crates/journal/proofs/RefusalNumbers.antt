-- What was refused is known by its number. Assumes nothing.
use mathlib.Core.Path.{◌≡◌, refl, sym, ap, ◌∙◌}
use mathlib.Core.Logic.{◌↔◌, ◌≢◌}
use mathlib.Core.Bool.{cond}
use Prim.Native.Nat.{ℕ, ◌≤◌}
use native.Mathlib.Omega.{arith}
use lib.Dec.{eqb}
use Rattle.answers.specs.declared.Refusal.{Refusal}
use Rattle.answers.specs.Refusals.{number_of}
use Rattle.answers.proofs.Numbers.{number_means}
use Rattle.journal.specs.declared.entry.Broken.{Broken}
use Rattle.journal.specs.declared.entry.Broken.TheVariants.{Cut, UnknownKind, WrongLength}
use Rattle.journal.specs.Refusals.{Wrote, Before, NoRoom}
use Rattle.std.specs.Prelude.{Ok, Err}
use Rattle.journal.specs.Refusals.{broken_number, wrote_number, JournalNumbers}

-- why, by the number
numbered : ℕ → Broken
numbered n = cond (eqb n 13) Cut (cond (eqb n 14) UnknownKind WrongLength)

back : (why : Broken) → numbered (broken_number why) ≡ why
unfolding numbered
back Cut = refl
back UnknownKind = refl
back WrongLength = refl

none_shared : (why other : Broken) → broken_number why ≡ broken_number other → why ≡ other
none_shared why other e = sym (back why) ∙ (ap numbered e ∙ back other)

sixteen_means : (outcome : Wrote) → (wrote_number outcome ≡ 16) ↔ (outcome ≡ NoRoom)
sixteen_means (Ok next) = (λ e. absurd (omega (arith, e)), λ e. ap wrote_number e)
sixteen_means (Err full) = (λ e. refl, λ e. refl)

zero_means : (outcome : Wrote) → (wrote_number outcome ≡ 0) ↔ ((next : ℕ) × (outcome ≡ Before next))
zero_means (Ok next) = (λ e. (next, refl), λ p. refl)
zero_means (Err full) = (λ e. absurd (omega (arith, e)), λ p. ap wrote_number p.1)

reader's : (why : Broken) → (13 ≤ broken_number why) × (broken_number why ≤ 15)
reader's Cut = (omega arith, omega arith)
reader's UnknownKind = (omega arith, omega arith)
reader's WrongLength = (omega arith, omega arith)

writer's : (why : Broken) (outcome : Wrote) → wrote_number outcome ≢ broken_number why
writer's why (Ok next) e = omega (arith, e, (reader's why).0)
writer's why (Err full) e = omega (arith, e, (reader's why).1)

no_store's : (refusal : Refusal) → (number_of refusal ≢ wrote_number NoRoom) × ((why : Broken) → number_of refusal ≢ broken_number why)
no_store's refusal =
    let own : number_of refusal ≤ 8 = (number_means.in_range refusal).1 in
    (λ e. omega (arith, e, own), λ why e. omega (arith, e, own, (reader's why).0))

pub journal_numbers : JournalNumbers
journal_numbers = record {
  none_shared = none_shared;
  thirteen_means = λ why. (λ e. none_shared why Cut e, λ e. ap broken_number e);
  fourteen_means = λ why. (λ e. none_shared why UnknownKind e, λ e. ap broken_number e);
  fifteen_means = λ why. (λ e. none_shared why WrongLength e, λ e. ap broken_number e);
  sixteen_means = sixteen_means;
  zero_means = zero_means;
  reader's = reader's;
  writer's = writer's;
  no_store's = no_store's;
}
