-- So far as the loop has come, the bytes are in front. Assumes nothing.
use Prim.Native.Nat.{ℕ}
use mathlib.Core.Path.{◌≡◌, refl, ap, ◌∙◌}
use mathlib.Core.List.{List}
use lib.ListN.{length, set, get_or}
use Rattle.parts.proofs.Laws.{copied, copied_next, copied_all}
use native.Mathlib.Omega.{arith}
use lib.ListN.{length-set}
use Rattle.parts.proofs.fill_front.Goals as goal

pub loop-i-init : goal.loop-i-init
loop-i-init c = (refl, refl)

pub bounds-bytes-i : goal.bounds-bytes-i
bounds-bytes-i c = omega arith

pub bounds-part-i : goal.bounds-part-i
bounds-part-i c = omega (arith, c.loop-i.invariant.1)

pub loop-i-preserved : goal.loop-i-preserved
loop-i-preserved c =
    let d : List ℕ = c.args.part.now in
    let s : List ℕ = c.args.bytes.now in
    let i : ℕ = c.loop-i.i in (
      ap (λ (l : List ℕ). set l i (get_or s i 0)) c.loop-i.invariant.0 ∙ copied_next d s i (omega arith) (omega arith),
      length-set c.loop-i.part i (get_or s i 0) ∙ c.loop-i.invariant.1,
    )

pub shape_of-part : goal.shape_of-part
shape_of-part c = c.loop-i.invariant.1

pub returns : goal.returns
returns c =
    let d : List ℕ = c.args.part.now in
    let s : List ℕ = c.args.bytes.now in
    let e : c.loop-i.i ≡ length s = omega arith in
    c.loop-i.invariant.0 ∙ ap (λ (n : ℕ). copied d s n) e ∙ copied_all d s
