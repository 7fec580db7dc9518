-- Size classes, smallest stores and lengths of tables in plain numbers. Assumes nothing.
use Rattle.std.specs.Prelude.{Result, Ok, Err, ℕ}
use Rattle.starting.specs.declared.lengths.Lengths.{Lengths as Needed}
use Rattle.answers.specs.declared.Refusal.{Refusal}
use Rattle.small_float.specs.declared.Size.{Size}
use Rattle.small_float.specs.declared.ext.TooLarge.{TooLarge}
use Rattle.std.proofs.Math.Option.{Option, none, some}
use Rattle.small_float.specs.Smallest.{refusal_of, store_of}
use Rattle.answers.specs.Refusals.{number_of}
use Rattle.host_values.specs.declared.Told.{Told}
use Rattle.host_spans.specs.declared.classes.Lengths.{Lengths}

-- "no class" is 256, which is none of the classes
abbrev pub class_or_256 : Option ℕ → ℕ
class_or_256 (some class) = class
class_or_256 none = 256

abbrev pub smallest_told : Result Size TooLarge → Told
smallest_told a = record { number = refusal_of a; first = store_of a; second = 0 }

-- a refusal with this number, and no lengths
abbrev pub no_lengths : ℕ → Lengths
no_lengths number = record { number = number; nodes = 0; pile = 0; scratch = 0 }

abbrev pub lengths_told : Result Needed Refusal → Lengths
lengths_told (Ok l) = record { number = 0; nodes = l.nodes; pile = l.free_nodes; scratch = l.scratch }
lengths_told (Err why) = no_lengths (number_of why)
