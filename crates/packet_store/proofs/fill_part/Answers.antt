-- By the test. Assumes nothing.
use Rattle.packets.proofs.Steps.{too_many, enough}
use Rattle.packet_store.proofs.fill_part.Goals as goal

pub returns-then-len-new : goal.returns-then-len-new
returns-then-len-new c =
    too_many c.args.n.0 c.args.offset c.args.new.now c.args.bytes.now c.if-len-new.true

pub returns : goal.returns
returns c =
    enough c.args.n.0 c.args.offset c.args.new.now c.args.bytes.now _ c.if-len-new.false c.fill.ensures
