-- What the code's rounding up answers, in the words of Class.antt: document 02's class, or "no class". Assumes nothing.
use Rattle.std.specs.Prelude.{ℕ, Option, Some, None}
use Rattle.std.proofs.Math.Option.{Option as Maybe, none, some}
use Rattle.small_float.specs.declared.Class.{Class}

abbrev pub rounded_to : Option Class → Maybe ℕ
rounded_to (Some class) = some class.0
rounded_to None = none
