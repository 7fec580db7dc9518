-- By the test. Assumes nothing.
use Rattle.packets.proofs.Steps.{passes, stays_inside}
use Rattle.packet_store.proofs.inside.Goals as goal

pub returns-then-size-end : goal.returns-then-size-end
returns-then-size-end c =
    passes c.args.size c.args.offset c.args.n.0 c.if-size-end.true

pub returns : goal.returns
returns c =
    stays_inside c.args.size c.args.offset c.args.n.0 c.if-size-end.false
