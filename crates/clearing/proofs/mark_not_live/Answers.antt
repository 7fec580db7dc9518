-- Below r each record is marked not live. Assumes nothing.
use mathlib.Core.Path.{◌≡◌, refl, ap, ◌∙◌}
use lib.ListN.{length}
use Rattle.tables.specs.Setup.{wiped}
use Rattle.tables.proofs.Wiped.{length_wiped}
use Rattle.tables.proofs.Turns.{wiped_more}
use native.Mathlib.Omega.{arith}
use Rattle.clearing.proofs.mark_not_live.Goals as goal

pub loop-r-init : goal.loop-r-init
unfolding wiped
loop-r-init c = refl

pub put-requires : goal.put-requires
put-requires c =
    omega (arith, ap length c.loop-r.invariant, length_wiped c.loop-r.r c.args.nodes.now)

pub loop-r-preserved : goal.loop-r-preserved
loop-r-preserved c =
    rw (wiped_more, c.put.ensures, c.loop-r.invariant)

pub shape_of-nodes : goal.shape_of-nodes
shape_of-nodes c = ap length c.loop-r.invariant ∙ length_wiped _ _

pub returns : goal.returns
returns c =
    let e : c.loop-r.r ≡ c.args.max_allocs = omega arith in
    rw (← e) c.loop-r.invariant
