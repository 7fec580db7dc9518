-- A reading of the gauge in plain numbers. Assumes nothing.
use Rattle.std.specs.Prelude.{◌≡◌, pos}
use Rattle.tables.specs.Words.{Words}
use Rattle.tables.specs.Calls.{edition32}
use Rattle.gauge.specs.Rule as rule
use Rattle.gauge.specs.Answers.{Told, read, not_read}
use Rattle.gauge.specs.Promise.{ReadPromise}
use Rattle.host_values.specs.Tells.{Tells}
use Rattle.host_gauge.specs.declared.Watch.{Watch}
use Rattle.host_gauge.specs.declared.Reading.{Reading}

abbrev pub watch_in : Watch → rule.Watch
watch_in w = record { level = w.level; peak = w.peak; last = w.last }

-- what is told, with what is kept for the next reading
abbrev pub reading_told : Told × rule.Watch → Reading
reading_told (read fill level peak net, h) =
    record { number = 0; fill = fill; level = h.level; peak = h.peak; last = h.last; net = net }
reading_told (not_read number, h) =
    record { number = number; fill = 0; level = h.level; peak = h.peak; last = h.last; net = pos 0 }

-- a reading of the words w, with what was kept, tells and leaves this
abbrev pub Read : Words → Watch → Told × rule.Watch → Type 0
Read w watch came = ReadPromise edition32 w (watch_in watch) came.0 came.1

-- any two results that this allows coincide; proofs/OneReading.antt makes it
pub record OneReading : Type 0 where
  pub one_reading : (w : Words) (watch : Watch) (r s : Reading) → Tells reading_told (Read w watch) r → Tells reading_told (Read w watch) s → r ≡ s
