-- The words below i are cleared. Assumes nothing.
use mathlib.Core.Path.{◌≡◌, refl, ap, ◌∙◌}
use Prim.Native.Nat.{ℕ, ◌-◌}
use lib.ListN.{length}
use Rattle.audit_words.specs.Scratch.{cleared}
use Rattle.audit_words.proofs.Cleared.{cleared_length}
use Rattle.audit_words.proofs.Turns.{clear_turn}
use native.Mathlib.Omega.{arith}
use Rattle.audit_chain.proofs.scratch.clear.Goals as goal

pub loop-i-init : goal.loop-i-init
unfolding cleared
loop-i-init c = (omega arith, refl)

pub bounds-scratch-i : goal.bounds-scratch-i
bounds-scratch-i c = rw (c.loop-i.invariant.1, cleared_length) (omega arith)

pub loop-i-preserved : goal.loop-i-preserved
loop-i-preserved c = (omega arith, rw (clear_turn, c.loop-i.invariant.1))

pub shape_of-scratch : goal.shape_of-scratch
shape_of-scratch c = ap length c.loop-i.invariant.1 ∙ cleared_length _ _

pub returns : goal.returns
returns c =
    let all : c.loop-i.i ≡ c.args.max_allocs = omega arith in
    c.loop-i.invariant.1 ∙ ap (λ (k : ℕ). cleared k c.args.scratch.now) all
