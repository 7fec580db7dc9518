-- The rows of specs/Rows.antt, computed. Assumes nothing.
use mathlib.Core.Path.{refl}
use Rattle.small_float.specs.Class.{rounded_up}
use Rattle.ledger.specs.Ledger.{setup, on_top, without, lowest_from}
use Rattle.ledger.specs.Calls.{answer}
use Rattle.tables.specs.Gate.{setup_gate}
use Rattle.replaying.specs.Meaning.{asked, begun, meant, answers_of}
use Rattle.replaying.specs.Rows.{RowsMean, MeaningRows}

pub rows_mean : RowsMean
rows_mean = record { answering = λ calls expected e. e }

pub meaning_rows : MeaningRows
unfolding answers_of meant asked begun setup_gate answer setup rounded_up on_top without lowest_from
meaning_rows = record { example = refl; before_any = refl; after_refused = refl; counts = refl; run_to_follow = refl; elsewhere = refl }
