-- The words of the answers: what becomes of one that never comes. Assumes nothing.
use mathlib.Core.Path.{◌≡◌, refl}
use mathlib.Core.Logic.{◌≢◌}
use mathlib.Core.List.{List, []}
use Prim.Native.Nat.{ℕ}
use Rattle.ledger.specs.Ledger.{Answer, granted, done, length_is, reported, classes, refused}
use Rattle.demands.specs.Runs.{Done}
use Rattle.packets.specs.Stores.{Kept, two}
use Rattle.packets.specs.OneStore.{fresh_bytes, inside_size, filled_by, shown_by}
use Rattle.packets.specs.Calls.{plain, from_external, after_first}
use Rattle.packets.specs.Promise.{tried_on}
use Rattle.packets.specs.PromiseMeans.{AnswersMean}

marks_none : (a : Answer) (s : ℕ) (bytes : List ℕ) → ((o r : ℕ) → a ≢ granted o r) → fresh_bytes a s bytes ≡ bytes
unfolding fresh_bytes
marks_none (granted o r) s bytes h = absurd (h o r refl)
marks_none done s bytes h = refl
marks_none (length_is n) s bytes h = refl
marks_none (reported n m) s bytes h = refl
marks_none (classes rows) s bytes h = refl
marks_none (refused k) s bytes h = refl

stays : (size o : ℕ) (a : Answer) → ((n : ℕ) → a ≢ length_is n) → inside_size size o a ≡ a
unfolding inside_size
stays size o (granted p r) h = refl
stays size o done h = refl
stays size o (length_is n) h = absurd (h n refl)
stays size o (reported n m) h = refl
stays size o (classes rows) h = refl
stays size o (refused k) h = refl

fills_none : (a : Answer) (o : ℕ) (new bytes : List ℕ) → ((n : ℕ) → a ≢ length_is n) → filled_by a o new bytes ≡ (a, bytes)
unfolding filled_by
fills_none (granted p r) o new bytes h = refl
fills_none done o new bytes h = refl
fills_none (length_is n) o new bytes h = absurd (h n refl)
fills_none (reported n m) o new bytes h = refl
fills_none (classes rows) o new bytes h = refl
fills_none (refused k) o new bytes h = refl

shows_none : (a : Answer) (o : ℕ) (bytes : List ℕ) → ((n : ℕ) → a ≢ length_is n) → shown_by a o bytes ≡ []
unfolding shown_by
shows_none (granted p r) o bytes h = refl
shows_none done o bytes h = refl
shows_none (length_is n) o bytes h = absurd (h n refl)
shows_none (reported n m) o bytes h = refl
shows_none (classes rows) o bytes h = refl
shows_none (refused k) o bytes h = refl

is_plain : (a : Answer) → ((o r : ℕ) → a ≢ granted o r) → from_external a ≡ plain a
is_plain (granted o r) h = absurd (h o r refl)
is_plain done h = refl
is_plain (length_is n) h = refl
is_plain (reported n m) h = refl
is_plain (classes rows) h = refl
is_plain (refused k) h = refl

stays_there : (a : Answer) (first beside : Kept) (second : Answer × Kept) → ((o r : ℕ) → a ≢ granted o r) → ((k : ℕ) → a ≢ refused k)
    → after_first a first beside second ≡ (plain a, two first beside)
stays_there (granted o r) first beside second h g = absurd (h o r refl)
stays_there done first beside second h g = refl
stays_there (length_is n) first beside second h g = refl
stays_there (reported n m) first beside second h g = refl
stays_there (classes rows) first beside second h g = refl
stays_there (refused k) first beside second h g = absurd (g k refl)

tries_none : (a : Answer) (ds : List Done) → ((k : ℕ) → a ≢ refused k) → tried_on a ds ≡ []
tries_none (granted o r) ds h = refl
tries_none done ds h = refl
tries_none (length_is n) ds h = refl
tries_none (reported n m) ds h = refl
tries_none (classes rows) ds h = refl
tries_none (refused k) ds h = absurd (h k refl)

pub answers_mean : AnswersMean
answers_mean = record {
  no_grant_marks_none = marks_none;
  no_length_stays = stays;
  no_length_fills_none = fills_none;
  no_length_shows_none = shows_none;
  no_grant_is_plain = is_plain;
  no_refusal_goes_on = stays_there;
  no_refusal_tries_none = tries_none;
}
