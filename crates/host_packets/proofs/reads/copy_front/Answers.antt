-- As much of the part as there is room for. Assumes nothing.
use mathlib.Core.Path.{◌≡◌, ap, ◌∙◌}
use mathlib.Core.List.{List, ◌++◌}
use Prim.Native.Nat.{ℕ, min}
use native.Mathlib.Omega.{arith}
use lib.ListN.{length, take, drop}
use lib.Seq.{length-take-le}
use Rattle.std.proofs.Common.{rules}
use Rattle.host_packets.proofs.Fronts.{copied_front}
use Rattle.host_packets.proofs.reads.copy_front.Goals as goal

pub returns : goal.returns
returns c =
    let s : List ℕ = c.args.part.now in
    let d : List ℕ = c.args.out.now in
    let n : ℕ = c.min-many.result in
    let least : n ≡ min (length s) (length d) = search rules in
    c.fill_front.ensures
    ∙ ap (λ (m : ℕ). take n s ++ drop m d) (length-take-le n s (omega (arith, least)))
    ∙ copied_front s d n least
