-- Any two results that a contract of this shape allows coincide, with all that was left, if any two that the call promises do; and those do. Assumes
-- nothing.
use Rattle.answers.specs.declared.Refusal.{Refusal}
use Rattle.std.specs.Prelude.{◌≡◌, List, ℕ, length, Result}
use Rattle.ledger.specs.Calls.{Call}
use Rattle.tables.specs.Words.{Words, Edition}
use Rattle.tables.specs.Setup.{Lent}
use Rattle.tables.specs.Promise.{Promise, SetupPromise}
use Rattle.host_values.specs.Tells.{Tells}
use Rattle.host_values.specs.Told.{FullTold}
use Rattle.host_values.specs.Kept.{words_in}

-- of any two answers that are promised, each with what is left, the answers are the same, and what is left is
abbrev pub OneOutcome : {A Left : Type 0} → (Left → A → Type 0) → Type 0
OneOutcome {A = A} {Left = Left} Promised = (v u : Left) (a b : A) → Promised v a → Promised u b → (a ≡ b) × (v ≡ u)

-- then the plain numbers are, however the answers are put into them; proofs/OneResult.antt makes it, and the next
pub record OneResult {A R Left : Type 0} (flat : A → R) (Promised : Left → A → Type 0) : Type 0 where
  pub one_result : OneOutcome Promised → (v u : Left) (r s : R) → Tells flat (Promised v) r → Tells flat (Promised u) s → (r ≡ s) × (v ≡ u)

-- what is promised is such: by the calls, by setups, and by a full report, whose columns are what it leaves
pub record OnePromised (E : Edition) : Type 0 where
  pub of_call : (c : Call) (w : Words) → OneOutcome (Promise E c w)
  pub of_setup : (size count : ℕ) (lent : Lent) → OneOutcome (SetupPromise E size count lent)
  pub of_full : (w : Words) → OneOutcome {A = Result Unit Refusal} {Left = List ℕ × List ℕ} (λ columns. FullTold E w columns.0 columns.1)
  -- the words that are left are a program's arrays, of which those of the scalars are given by them too
  pub same_scalars : (s t hs ls ns ps gs ks ms qs : List ℕ) → length s ≡ 5 → length t ≡ 5 → words_in s hs ls ns ps ≡ words_in t gs ks ms qs → s ≡ t
