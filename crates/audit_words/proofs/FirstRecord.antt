-- Where the chain begins: the one record that may begin it is found. Assumes nothing.
use mathlib.Core.Path.{◌≡◌, refl, ap}
use mathlib.Core.Bool.{Bool, true, false, cond}
use mathlib.Core.List.{List}
use Prim.Native.Nat.{ℕ, zero, suc, ◌+◌, ◌≤◌, ◌<◌}
use native.Mathlib.Omega.{arith}
use Rattle.tables.specs.Words.{Edition}
use Rattle.audit_words.specs.Chain.{starts_chain, first_record}

module _ (E : Edition) (nodes marks : List ℕ) (h : ℕ) (starts : starts_chain E nodes marks h ≡ true) where
  pub first_found : (k i : ℕ) → i ≤ h → h < i + k → ((r : ℕ) → i ≤ r → r < i + k → starts_chain E nodes marks r ≡ true → r ≡ h)
      → first_record E k nodes marks i ≡ h
  unfolding first_record
  first_found zero i l m only = absurd (omega arith)
  first_found (suc k) i l m only = go (starts_chain E nodes marks i) refl
      (λ l m. first_found k (i + 1) l m (λ r a b. only r (omega arith) (omega arith)))
    where
      go : (t : Bool) → starts_chain E nodes marks i ≡ t → (i + 1 ≤ h → h < i + 1 + k → first_record E k nodes marks (i + 1) ≡ h)
          → cond t i (first_record E k nodes marks (i + 1)) ≡ h
      go true e further = only i (omega arith) (omega arith) e
      go false e further = further (omega (arith, not_here)) (omega arith)
        where
          not_here : i ≡ h → ⊥
          not_here s = let z : ◌≡◌ {A = ℕ} 0 1 = cc (ap (starts_chain E nodes marks) s) in omega arith
