-- The number of the refusal, and zeros. Assumes nothing.
use mathlib.Core.Path.{ap}
use Prim.Native.Nat.{ℕ}
use Rattle.host_values.specs.Told.{refused_by}
use Rattle.host_values.proofs.of_refusal.Goals as goal

pub returns : goal.returns
returns c = ap (λ (n : ℕ). refused_by n) c.number.ensures
