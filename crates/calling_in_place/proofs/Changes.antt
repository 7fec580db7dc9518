-- What a call that came as a value promised, told as a row has it. Assumes nothing.
use mathlib.Core.Path.{◌≡◌}
use Rattle.ledger.specs.Ledger as ledger
use Rattle.tables.specs.Words.{Words}
use Rattle.tables.specs.Calls.{edition32}
use Rattle.call_values.specs.declared.answer.Answer.{Answer}
use Rattle.calls.specs.declared.Call.{Call}
use Rattle.calls.specs.declared.Call.TheVariants.{Take, HandBack, SetUp, Reset}
use Rattle.calling.specs.Makes.{Makes}
use Rattle.telling.specs.Told.{told}
use Rattle.telling.proofs.Promised.{told_so}
use Rattle.calling_in_place.specs.Changed.{changed}

pub change_told : (c : Call) {w v : Words} {a : ledger.Answer} {b : Answer} → b ≡ told a → Makes edition32 c w v a
    → ◌≡◌ {A = Answer × Words} (b, v) (changed c w)
change_told (Take size) t m = told_so t m.promised.exact
change_told (HandBack span) t m = told_so t m.promised.exact
change_told (SetUp size count) t m = told_so t m.promised.exact
change_told Reset t m = told_so t m.promised.exact
