-- Any two results that a contract of a call with all of the head lent allows are the same values of the code: answer, scalars, arrays, tables.
-- proofs/OneResult.antt makes it. Assumes nothing.
use Rattle.answers.specs.declared.Allocation.{Allocation}
use Rattle.answers.specs.declared.Refusal.{Refusal}
use Rattle.std.specs.Prelude.{◌≡◌, List, ℕ, length, Result}
use Rattle.ledger.specs.Calls.{Call}
use Rattle.tables.specs.Words.{Words, Edition}
use Rattle.tables.specs.Promise.{Promise}
use Rattle.answers.specs.Answers.{take_says, back_says}
use Rattle.records.specs.InWords.{words_of, of_array}

-- what a call leaves, with an array of five scalars
pub record AllLent : Type 0 where
  pub scalars : List ℕ
  pub bin_indices : List ℕ
  pub used_bins : List ℕ
  pub nodes : List ℕ
  pub pile : List ℕ

abbrev pub lent_words : AllLent → Words
lent_words v = words_of (of_array v.scalars) v.bin_indices v.used_bins v.nodes v.pile

pub record OneLentResult (E : Edition) : Type 0 where
  pub of_take : (c : Call) (w : Words) (a b : Result Allocation Refusal) (v u : AllLent) → length v.scalars ≡ 5 → length u.scalars ≡ 5
      → Promise E c w (lent_words v) (take_says a)
      → Promise E c w (lent_words u) (take_says b) → (a ≡ b) × (v ≡ u)
  pub of_back : (c : Call) (w : Words) (a b : Result Unit Refusal) (v u : AllLent) → length v.scalars ≡ 5 → length u.scalars ≡ 5
      → Promise E c w (lent_words v) (back_says a)
      → Promise E c w (lent_words u) (back_says b) → (a ≡ b) × (v ≡ u)
