-- What the verdict on a row of the list of runs tells, made. Assumes nothing.
use Rattle.call_verdicts.specs.Facts.{VerdictFacts}
use Rattle.call_verdicts.proofs.Agreeing.{agrees_only, listed_only}

pub verdict_facts : VerdictFacts
verdict_facts = record { agrees_only = agrees_only; listed_only = listed_only }
