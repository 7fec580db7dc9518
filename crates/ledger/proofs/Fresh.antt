-- A fresh store grants exactly what its size serves. Assumes nothing.
use mathlib.Core.Path.{◌≡◌, ap}
use Prim.Native.Nat.{ℕ, ◌-◌, ◌^◌, ◌≤◌, ◌<◌}
use native.Mathlib.Omega.{arith}
use mathlib.Core.Logic.{◌↔◌}
use mathlib.Core.List.{[]}
use lib.ListN.{length}
use Rattle.small_float.specs.Class.{down, up}
use Rattle.small_float.specs.Facts.{Serves}
use Rattle.small_float.proofs.Rounding.{down_most, reaches_number}
use Rattle.ledger.specs.Ledger.{Ledger, Stacks, by_class, free, setup}
use Rattle.ledger.specs.WellFormed.{WellFormed}
use Rattle.ledger.specs.Spans.{At, first, FreeIn}
use Rattle.ledger.specs.Claims.{Granted}
use Rattle.ledger.proofs.Places.{Where, here, further, where?, at_none}
use Rattle.ledger.proofs.Numbers.{length_numbers_from}
use Rattle.ledger.proofs.Cases.{TakeCase, few_spares, no_region, serves, take_case}
use Rattle.ledger.proofs.CallsWell.{setup_well}
use Rattle.ledger.proofs.Refusals.{refusal_4}
use Rattle.ledger.proofs.Grants.{the_grant}
use Rattle.ledger.proofs.ByClass.{class_laws}

module _ (size count : ℕ) (small : size < 2 ^ 32) (three : 3 ≤ count) where
  fresh : Ledger Stacks
  fresh = setup by_class size count

  well : WellFormed by_class size count fresh
  unfolding fresh
  well = setup_well by_class class_laws size count (omega arith)

  two_spare : 2 ≤ length fresh.pile
  unfolding fresh setup
  two_spare = omega (arith, length_numbers_from (count - 1) 1)

  whole_free : FreeIn size fresh.line
  unfolding fresh setup
  whole_free = (0, 0, first)

  -- its class reaches what s is rounded up to exactly if it is at least `up s`
  by_number : (s : ℕ) → Serves size s ↔ (up s ≤ down size)
  by_number s = reaches_number s (down size) (omega (arith, down_most size small))

  -- its one region
  the_one : (n r o : ℕ) → At (free n r) o fresh.line → n ≡ size
  unfolding fresh setup
  the_one n r o a = go (where? a)
    where
      go : Where (free n r) o (free size 0) [] → n ≡ size
      go (here e z) = cc
      go (further p e b) = absurd (at_none b)

  pub fresh_grants : (s : ℕ) → Granted by_class s (setup by_class size count) ↔ Serves size s
  unfolding fresh
  fresh_grants s = (reached, λ h. granted_one h (take_case by_class class_laws well s))
    where
      reached : Granted by_class s (setup by_class size count) → Serves size s
      reached g =
          let t = the_grant by_class class_laws size count s g.0 g.1 (setup by_class size count) well g.2 in
          let one-length = the_one t.length_before g.1 g.0 t.was_free in
          (by_number s).1 (rw one-length at t.reaching)

      granted_one : Serves size s → TakeCase by_class s (setup by_class size count) → Granted by_class s (setup by_class size count)
      granted_one h (few_spares k e) = absurd (omega (arith, two_spare))
      granted_one h (no_region k m e) =
          let none = ((refusal_4 by_class class_laws size count small s (setup by_class size count) well).0 (ap (λ a. a.0) e)).1 in
          absurd (omega (arith, none size whole_free, (by_number s).0 h))
      granted_one h (serves t) = (_, _, ap (λ a. a.0) t.outcome)
