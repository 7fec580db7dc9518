-- The answer says what the call answered. Assumes nothing.
use Rattle.calling.proofs.Promised.{said_so}
use Rattle.calling.proofs.reset.Goals as goal

pub returns : goal.returns
returns c = record { promised = said_so c.of_done.ensures c.reset-started.ensures }
