-- Four writes, one after the other. Assumes nothing.
use Rattle.bins.proofs.insert.write_links.Goals as goal

pub returns : goal.returns
returns c = cc
