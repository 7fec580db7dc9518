-- By cases of the call. Assumes nothing.
use mathlib.Core.Path.{◌≡◌, refl}
use Rattle.std.specs.Prelude.{Some}
use Rattle.calls.specs.declared.Call.{Call}
use Rattle.calls.specs.declared.Call.TheVariants.{Take, HandBack, SetUp, Reset}
use Rattle.journal.specs.Writing.{kind_of}
use Rattle.host_journal.specs.Written.{named}
use Rattle.host_journal.specs.Read.{first_of, second_of}
use Rattle.host_journal.specs.NamedAgain.{NamedAgain}

of_each : (c : Call) → named (kind_of c) (first_of c) (second_of c) ≡ Some c
unfolding named
of_each (Take size) = refl
of_each (HandBack span) = refl
of_each (SetUp size count) = refl
of_each Reset = refl

pub named_again : NamedAgain
named_again = record { named_again = of_each }
