-- Not a step, or a run. Assumes nothing.
use Rattle.audit_chain.proofs.Coming.{comes_nowhere}
use Rattle.audit_chain.proofs.chain.run_if_likely.Goals as goal

pub returns-then-in_a_row-lt-MANY : goal.returns-then-in_a_row-lt-MANY
returns-then-in_a_row-lt-MANY c = comes_nowhere _ _ _ _ _ c.requires

pub run_on-requires : goal.run_on-requires
run_on-requires c = c.requires

pub returns : goal.returns
returns c = c.run_on.ensures
