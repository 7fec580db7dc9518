-- When a row of the list of size classes agrees with the port, and when it shows a listed difference. Assumes nothing.
use Rattle.std.specs.Prelude.{ℕ, ◌%◌, ◌^◌, cond, eqb, ltb}
use Rattle.std.proofs.Math.Option.{Option, none, some}
use Rattle.small_float.specs.Class.{down, value, rounded_up}
use Rattle.oracle_lists.specs.declared.rows.Reader.{Reader}
use Rattle.oracle_lists.specs.declared.tally.Verdict.{Verdict}
use Rattle.oracle_lists.specs.declared.tally.Verdict.TheVariants.{Agrees, Listed, Differs}

-- what the Rust rounds a size up to: the port's class; where the port has none, 240
unfoldable pub in_rust : Option ℕ → ℕ
in_rust (some class) = class
in_rust none = 240

-- the smallest store, the value of that class; where the port refuses, the Rust gives 0
unfoldable pub served_verdict : Option ℕ → ℕ → Verdict
served_verdict (some class) smallest = cond (eqb (value class) smallest) Agrees Differs
served_verdict none smallest = cond (eqb smallest 0) Listed Differs

-- a size, its class rounded down, its class rounded up and its smallest store; where the port has no class, both of the latter are listed differences
unfoldable pub size_verdict : ℕ → ℕ → ℕ → ℕ → Verdict
unfolding in_rust served_verdict
size_verdict size d u smallest =
    cond (eqb (down size) d) (cond (eqb (in_rust (rounded_up size)) u) (served_verdict (rounded_up size) smallest) Differs) Differs

-- a class and its value; the Rust gives the low 32 bits of it, from class 240 on a listed difference. The list has no class above 263
unfoldable pub class_verdict : ℕ → ℕ → Verdict
class_verdict class v =
    cond (ltb 263 class) Differs (cond (eqb (value class) v) Agrees (cond (eqb (value class % 2 ^ 32) v) Listed Differs))

-- a whole row: c and two numbers, or s and four
unfoldable pub row_verdict : Reader → Verdict
row_verdict r =
    cond (eqb r.letter 99) (cond (eqb r.fields 2) (class_verdict r.c r.d) Differs)
    (cond (eqb r.letter 115) (cond (eqb r.fields 4) (size_verdict r.a r.b r.c r.d) Differs) Differs)
