-- Which ledgers are reached, and what the setup and a reset leave. Assumes nothing.
use mathlib.Core.Path.{◌≡◌, refl, sym, ap, ◌∙◌}
use Prim.Native.Nat.{ℕ, ◌+◌, ◌-◌, ◌≤◌, ◌<◌}
use native.Mathlib.Omega.{arith}
use mathlib.Core.List.{[], ◌∷◌, ◌++◌}
use lib.ListN.{length, get_or}
use Rattle.ledger.specs.Ledger.{Engine, Ledger, free, done, setup}
use Rattle.ledger.specs.Calls.{Call, Reset, answer, end}
use Rattle.ledger.specs.Claims.{Reached}
use Rattle.ledger.proofs.Numbers.{length_numbers_from, numbers_each}
use Rattle.ledger.proofs.RunsMean.{end_last}

module _ (E : Engine) (size count : ℕ) where
  -- ---- which ledgers are reached
  pub setup_reached : Reached E size count (setup E size count)
  unfolding answer end
  setup_reached = ([], refl)

  pub call_reached : (c : Call) (l : Ledger E.Index) → Reached E size count l → Reached E size count (answer E size count c l).1
  call_reached c l h = (
    h.0 ++ (c ∷ []),
    ap (λ k. (answer E size count c k).1) h.1 ∙ sym (end_last (answer E size count) h.0 c (setup E size count)),
  )

  -- ---- a fresh store
  pub fresh_line : (setup E size count).line ≡ free size 0 ∷ []
  unfolding setup
  fresh_line = refl

  pub fresh_spares : 2 ≤ count → length (setup E size count).pile + 1 ≡ count
  unfolding setup
  fresh_spares two = omega (arith, length_numbers_from (count - 1) 1)

  pub fresh_pile : (i : ℕ) → i + 1 < count → get_or (setup E size count).pile i 0 ≡ i + 1
  unfolding setup
  fresh_pile i h = omega (arith, numbers_each 1 (count - 1) i (omega arith))

  pub reset_is_fresh : (l : Ledger E.Index) → answer E size count Reset l ≡ (done, setup E size count)
  unfolding answer
  reset_is_fresh l = refl
