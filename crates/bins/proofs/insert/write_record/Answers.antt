-- The span, the links, then one write, one after the other. Assumes nothing.
use Rattle.bins.proofs.insert.write_record.Goals as goal

pub returns : goal.returns
returns c = cc
