-- What the greatest and the least number with a property are, from the other side. Assumes nothing.
use Prim.Native.Nat.{ℕ, ◌≤◌, ◌<◌}
use native.Mathlib.Omega.{arith}
use Rattle.basics.specs.Extreme.{ExtremeMeans}

-- a number that is not beyond another is at most it
not_beyond : (a b : ℕ) → ¬ (b < a) → a ≤ b
not_beyond a b h = omega (arith, h)

pub extreme_means : (P : ℕ → Type 0) (n : ℕ) → ExtremeMeans P n
extreme_means P n = record {
  greatest_exactly = (
    λ g. (g.0, λ m beyond h. absurd (omega (arith, g.1 m h))),
    λ g. (g.0, λ m h. not_beyond m n (λ beyond. g.1 m beyond h)),
  );
  least_exactly = (
    λ l. (l.0, λ m below h. absurd (omega (arith, l.1 m h))),
    λ l. (l.0, λ m h. not_beyond n m (λ below. l.1 m below h)),
  );
}
