-- The answer says what the call answered. Assumes nothing.
use Rattle.calling.proofs.Promised.{said_so}
use borrow.Author.Rules.{rules}
use Rattle.calling.proofs.hand_back.Goals as goal

pub returns : goal.returns
returns c = record { promised = search (rules, said_so) }
