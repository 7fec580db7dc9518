-- Two numbers compared: the fact together with the value of the test, so that one case split gives both.
-- A proof that splits on `same? a b` or `below? a b` can rewrite the test in its goal and hand the fact to omega. Assumes nothing.
use mathlib.Core.Path.{◌≡◌, refl, sym, subst}
use Prim.Native.Nat.{ℕ, ◌≤◌, ◌<◌}
use native.Mathlib.Omega.{arith}
use mathlib.Core.Logic.{◌≢◌}
use mathlib.Core.Bool.{Bool, true, false}
use lib.Dec.{T, eqb, ltb, eqb→eq, eqb_refl, ltb→lt, lt→ltb}

pub data Same (a b : ℕ) : Type 0 where
  same : a ≡ b → eqb a b ≡ true → Same a b
  differ : a ≢ b → eqb a b ≡ false → Same a b

pub same? : (a b : ℕ) → Same a b
same? a b = go (eqb a b) refl
  where
    go : (t : Bool) → eqb a b ≡ t → Same a b
    go true e = same (eqb→eq a b (rw e tt)) e
    go false e = differ (λ p. subst (λ (t : Bool). T t) e (subst (λ (x : ℕ). T (eqb a x)) p (eqb_refl a))) e

pub eqb_same : (a : ℕ) → eqb a a ≡ true
eqb_same a = elim (same? a a) [ same p e ↦ e | differ p e ↦ absurd (p refl) ]

pub data Below (a b : ℕ) : Type 0 where
  below : a < b → ltb a b ≡ true → Below a b
  beyond : b ≤ a → ltb a b ≡ false → Below a b

pub below? : (a b : ℕ) → Below a b
below? a b = go (ltb a b) refl
  where
    go : (t : Bool) → ltb a b ≡ t → Below a b
    go true e = below (ltb→lt a b (subst (λ (t : Bool). T t) (sym e) tt)) e
    go false e =
        let no_lt : a < b → ⊥ = λ h. subst (λ (t : Bool). T t) e (lt→ltb a b h) in
        beyond (omega (arith, no_lt)) e
