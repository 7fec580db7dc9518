-- Which words a table that has room holds. Assumes nothing.
use mathlib.Core.List.{List}
use Prim.Native.Nat.{ℕ, zero, suc, ◌<◌}
use native.Mathlib.Omega.{arith}
use Rattle.records.specs.InWords.{HasRoom, InTable, RoomFacts}

of_each : (n : ℕ) (nodes : List ℕ) → ((r : ℕ) → r < n → InTable r nodes) → HasRoom n nodes
of_each zero nodes each = omega arith
of_each (suc n) nodes each = omega (arith, each n (omega arith))

pub room_facts : RoomFacts
room_facts = record {
  in_table = λ r nodes. (λ h k l. omega arith, λ each. omega (arith, each 7 (omega arith)));
  has_room = λ n nodes. (λ h r l. omega arith, of_each n nodes);
}
