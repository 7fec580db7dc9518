-- The answer says what the call answered. Assumes nothing.
use Rattle.calling.proofs.Promised.{setup_said_so}
use Rattle.calling.proofs.set_up.Goals as goal

pub returns : goal.returns
returns c = λ t. record { promised = setup_said_so c.of_done.ensures c.with_max_allocs-started.ensures }
