-- Twice two bytes make the number. Assumes nothing.
use mathlib.Core.List.{List}
use mathlib.Core.Path.{◌≡◌}
use native.Mathlib.Omega.{arith}
use Prim.Native.Nat.{ℕ, ◌+◌}
use Rattle.journal.proofs.Numbers.{two_bytes, four_bytes}
use Rattle.journal.proofs.reading.get32.Goals as goal

pub returns : goal.returns
returns c =
    let bytes : List ℕ = c.args.bytes.now in
    let at : ℕ = c.args.at in
    let place : at + 2 + 1 ≡ at + 3 = omega arith in
    let high = rw place at (two_bytes bytes (at + 2) (omega arith)) in
    omega (arith, four_bytes bytes at (omega arith), two_bytes bytes at (omega arith), high)
