-- The numbers of a call that was read name that call, and so write its record again. proofs/NamedAgain.antt makes it. Assumes nothing.
use Rattle.std.specs.Prelude.{Some, ◌≡◌}
use Rattle.calls.specs.declared.Call.{Call}
use Rattle.journal.specs.Writing.{kind_of}
use Rattle.host_journal.specs.Written.{named}
use Rattle.host_journal.specs.Read.{first_of, second_of}

pub record NamedAgain : Type 0 where
  pub named_again : (c : Call) → named (kind_of c) (first_of c) (second_of c) ≡ Some c
