-- The four bytes are those of the number. Assumes nothing.
use native.Mathlib.Omega.{arith}
use native.Mathlib.Numerals.{add-one}
use Prim.Native.Nat.{ℕ, suc, ◌+◌, ◌/◌}
use mathlib.Core.Path.{◌≡◌}
use Rattle.journal.specs.Bytes.{in_bytes}
use Rattle.journal.proofs.writing.put32.Goals as goal

pub returns : goal.returns
unfolding in_bytes
returns c =
    let at : ℕ = c.args.at in
    let n : ℕ = c.args.n in
    let e2 : at + 2 ≡ suc (suc at) = omega arith in
    let e3 : at + 3 ≡ suc (suc (suc at)) = omega arith in
    let third : n / 65536 ≡ n / 256 / 256 = omega arith in
    let fourth : n / 16777216 ≡ n / 256 / 256 / 256 = omega arith in
    rw (add-one, e2, e3, c.to_le_bytes.ensures, third, fourth)
