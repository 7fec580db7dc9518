-- Below i the pile is filled, from the bottom. Assumes nothing.
use Prim.Native.Nat.{ℕ}
use mathlib.Core.Path.{◌≡◌, refl, ap, ◌∙◌}
use lib.ListN.{length}
use Rattle.tables.specs.Setup.{piled}
use Rattle.tables.proofs.Wiped.{length_piled}
use Rattle.tables.proofs.Turns.{piled_more}
use native.Mathlib.Omega.{arith}
use Rattle.clearing.proofs.pile_up.Goals as goal

pub loop-i-init : goal.loop-i-init
unfolding piled
loop-i-init c = refl

pub bounds-free_nodes-i : goal.bounds-free_nodes-i
bounds-free_nodes-i c =
    omega (arith, ap length c.loop-i.invariant, length_piled c.loop-i.i c.args.max_allocs c.args.free_nodes.now)

pub loop-i-preserved : goal.loop-i-preserved
loop-i-preserved c =
    rw (piled_more, c.loop-i.invariant)

pub shape_of-free_nodes : goal.shape_of-free_nodes
shape_of-free_nodes c = ap length c.loop-i.invariant ∙ length_piled _ _ _

pub returns : goal.returns
returns c =
    let e : c.loop-i.i ≡ c.args.max_allocs = omega arith in
    c.loop-i.invariant ∙ ap (λ (k : ℕ). piled k c.args.max_allocs c.args.free_nodes.now) e
