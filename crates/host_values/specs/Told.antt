-- An answer of a call as the refusal's number and two figures, and a full report as two columns. Assumes nothing.
use Rattle.answers.specs.declared.Refusal.{Refusal}
use Rattle.std.specs.Prelude.{◌≡◌, List, ℕ, length, get_or, Result, Ok, Err}
use Rattle.ledger.specs.Ledger.{Answer}
use Rattle.ledger.specs.Calls.{Call, Ask, FullReport}
use Rattle.ledger.specs.Figures.{refusal_of, figures_of}
use Rattle.tables.specs.Words.{Words, Edition}
use Rattle.tables.specs.Promise.{Promise}
use Rattle.answers.specs.Refusals.{number_of}
use Rattle.answers.specs.Answers.{outcome_says, ZeroIfRefused}
use Rattle.host_values.specs.declared.Told.{Told}

-- the figures that the call returns, 0 where it returns fewer
abbrev pub told_by : Call → Answer → Told
told_by c a = record { number = refusal_of a; first = get_or (figures_of c a) 0 0; second = get_or (figures_of c a) 1 0 }

-- a refusal with this number
abbrev pub refused_by : ℕ → Told
refused_by number = record { number = number; first = 0; second = 0 }

-- ---- the full report: its columns are lent, and its number comes out
abbrev pub number_of_full : Result Unit Refusal → ℕ
number_of_full (Ok _) = 0
number_of_full (Err why) = number_of why

-- with this outcome the full report of the words w fills the two columns so
pub record FullTold (E : Edition) (w : Words) (sizes counts : List ℕ) (o : Result Unit Refusal) : Type 0 where
  pub exact : Promise E (Ask FullReport) w w (outcome_says o sizes counts)
  pub figures : ZeroIfRefused o sizes counts
  pub places : (length sizes ≡ 256) × (length counts ≡ 256)
