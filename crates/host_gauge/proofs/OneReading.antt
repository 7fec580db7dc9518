-- A reading's promise fixes what it tells and leaves. Assumes nothing.
use mathlib.Core.Path.{sym, ◌∙◌}
use Rattle.host_values.proofs.OneResult.{one_told}
use Rattle.host_gauge.specs.Readings.{reading_told, Read, OneReading}

pub one_reading : OneReading
one_reading = record { one_reading = λ w watch. one_told reading_told (Read w watch) (λ a b p q. p.exact ∙ sym q.exact) }
