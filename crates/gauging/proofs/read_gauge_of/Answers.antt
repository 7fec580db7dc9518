-- The question is asked, and its answer read. Assumes nothing.
use Rattle.tables.specs.Calls.{edition32}
use Rattle.gauge.proofs.Promised.{asked_and_read}
use Rattle.gauging.proofs.read_gauge_of.Goals as goal

pub returns : goal.returns
returns c = asked_and_read edition32 _ _ c.fill.ensures c.take_reading.ensures
