-- Document 02's numbers for what a journal can be refused for. Assumes nothing.
use Rattle.std.specs.Prelude.{◌≡◌, ◌↔◌, ◌≢◌, ℕ, ◌≤◌, Result, Ok, Err}
use Rattle.answers.specs.declared.Refusal.{Refusal}
use Rattle.answers.specs.Refusals.{number_of}
use Rattle.journal.specs.declared.entry.Broken.{Broken}
use Rattle.journal.specs.declared.entry.Broken.TheVariants.{Cut, UnknownKind, WrongLength}
use Rattle.journal.specs.declared.entry.NoRoom as refused

-- "A cut record is new refusal 13, an unknown kind 14, a wrong length for a known kind 15"
abbrev pub broken_number : Broken → ℕ
broken_number Cut = 13
broken_number UnknownKind = 14
broken_number WrongLength = 15

-- what comes of writing a record: the place behind it, or too little room
abbrev pub Wrote : Type 0
Wrote = Result ℕ refused.NoRoom

abbrev pub Before : (next : ℕ) → Wrote
Before next = Ok next

abbrev pub NoRoom : Wrote
NoRoom = Err record {}

-- "too little room to write a record is 16"
abbrev pub wrote_number : Wrote → ℕ
wrote_number (Ok next) = 0
wrote_number (Err full) = 16

-- told from the other side, so that a number says what it was refused for; proofs/RefusalNumbers.antt makes it
pub record JournalNumbers : Type 0 where
  pub none_shared : (why other : Broken) → broken_number why ≡ broken_number other → why ≡ other
  pub thirteen_means : (why : Broken) → (broken_number why ≡ 13) ↔ (why ≡ Cut)
  pub fourteen_means : (why : Broken) → (broken_number why ≡ 14) ↔ (why ≡ UnknownKind)
  pub fifteen_means : (why : Broken) → (broken_number why ≡ 15) ↔ (why ≡ WrongLength)
  pub sixteen_means : (outcome : Wrote) → (wrote_number outcome ≡ 16) ↔ (outcome ≡ NoRoom)
  -- 0 is a record that is written, and nothing else
  pub zero_means : (outcome : Wrote) → (wrote_number outcome ≡ 0) ↔ ((next : ℕ) × (outcome ≡ Before next))
  -- no number is both a reader's and the writer's, nor is one of them a store's; the packets' own, 9 and 17, lie outside these
  pub reader's : (why : Broken) → (13 ≤ broken_number why) × (broken_number why ≤ 15)
  pub writer's : (why : Broken) (outcome : Wrote) → wrote_number outcome ≢ broken_number why
  pub no_store's : (refusal : Refusal) → (number_of refusal ≢ wrote_number NoRoom) × ((why : Broken) → number_of refusal ≢ broken_number why)
