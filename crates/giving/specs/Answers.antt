-- What a hand-back does behind the gate. Assumes nothing.
use Rattle.ledger.specs.Ledger.{Answer}
use Rattle.ledger.specs.Calls.{Token}
use Rattle.tables.specs.Words.{Words}
use Rattle.tables.specs.HandBack.{plan_back, do_back}
use Rattle.tables.specs.Calls.{edition32}

-- what the model does behind the gate
abbrev pub handed_back : Token → Words → Answer × Words
handed_back span w = do_back edition32 w span.number (plan_back w span)
