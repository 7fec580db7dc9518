-- The greatest and the least number with a property. Assumes nothing.
use Rattle.std.specs.Prelude.{◌↔◌, ℕ, ◌≤◌, ◌<◌}

abbrev pub Greatest : (ℕ → Type 0) → ℕ → Type 0
Greatest P n = P n × ((m : ℕ) → P m → m ≤ n)

abbrev pub Least : (ℕ → Type 0) → ℕ → Type 0
Least P n = P n × ((m : ℕ) → P m → n ≤ m)

-- told from the other side: the number has the property, and none beyond it has; proofs/Extremes.antt makes it
pub record ExtremeMeans (P : ℕ → Type 0) (n : ℕ) : Type 0 where
  pub greatest_exactly : Greatest P n ↔ (P n × ((m : ℕ) → n < m → ¬ P m))
  pub least_exactly : Least P n ↔ (P n × ((m : ℕ) → m < n → ¬ P m))
