-- Both numbers are of 32 bits, so that their difference is exact. Assumes nothing.
use Rattle.gauge.specs.Rule.{net_change}
use Rattle.gauge.proofs.Nets.{net_fits, net_is}
use Rattle.gauge.proofs.net_change.Goals as goal

pub overflow_sub-result : goal.overflow_sub-result
overflow_sub-result c = net_fits c.args.live c.args.last c.ranges.live.fits c.ranges.last.fits

pub returns : goal.returns
unfolding net_change
returns c = net_is c.args.live c.args.last c.ranges.live.fits c.ranges.last.fits
