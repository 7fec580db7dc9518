-- Two writes, one after the other. Assumes nothing.
use Rattle.tables.specs.Steps.{join_nodes}
use Rattle.bins.proofs.insert.join_neighbors.Goals as goal

pub returns : goal.returns
unfolding join_nodes
returns c = cc
