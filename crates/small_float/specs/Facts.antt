-- What document 01 says of size classes, document 02 of sizes without one, and what the layers above rely on: one record, which proofs/Facts.antt
-- makes. Each fact is over all numbers, or over those that the sentence names. Assumes nothing.
use Rattle.std.specs.Prelude.{◌≡◌, ℕ, ◌-◌, ◌*◌, ◌^◌, ◌≤◌, ◌<◌, min, ◌↔◌}
use Rattle.std.proofs.Math.Option.{none, some}
use Rattle.basics.specs.Extreme.{Greatest, Least}
use Rattle.small_float.specs.Class.{down, up, value, classes_in_use, greatest_served, rounded_up, Reaches}

-- a store of n units, fresh, serves an object of s units: its one region's class reaches what the object is rounded up to
abbrev pub Serves : ℕ → ℕ → Type 0
Serves n s = Reaches (down n) (rounded_up s)

pub record ClassFacts : Type 0 where
  -- ---- the rounding down
  -- "down never exceeds 239"
  pub down_most : (s : ℕ) → s < 2 ^ 32 → down s ≤ 239
  -- "Down(s) is the greatest class whose value is at most s": so a class is at most down(s) exactly if its value is at most s
  pub down_greatest : (s : ℕ) → Greatest (λ c. value c ≤ s) (down s)
  pub down_reaches : (s c : ℕ) → (c ≤ down s) ↔ (value c ≤ s)
  -- ---- the rounding up
  -- "Above 4,026,531,840 the rounded-up class is a number no region can have. Let that rounding answer "no class""; up to there it is document 01's class
  pub no_region_has_it : (s n : ℕ) → greatest_served < s → n < 2 ^ 32 → down n < up s
  pub no_class : (s : ℕ) → (rounded_up s ≡ none) ↔ (greatest_served < s)
  pub a_class : (s c : ℕ) → (rounded_up s ≡ some c) ↔ ((s ≤ greatest_served) × (up s ≡ c))
  -- "01's facts on up are read up to that size": "up never exceeds 240", which up to there is 239; "up(s) the least whose value is at least s"; "For s from 8
  -- to 4,026,531,840 the value of up(s) exceeds s by less than s / 8."
  pub up_most : (s c : ℕ) → rounded_up s ≡ some c → c ≤ 239
  pub up_least : (s c : ℕ) → rounded_up s ≡ some c → Least (λ d. s ≤ value d) c
  pub up_near : (s c : ℕ) → rounded_up s ≡ some c → 8 ≤ s → 8 * (value c - s) < s
  -- ---- the two together
  -- a region whose class reaches what the request is rounded up to is long enough, and a class that a region can have reaches it exactly if its value
  -- reaches the request
  pub fits : (s n : ℕ) → Reaches (down n) (rounded_up s) → s ≤ n
  pub reaches : (s c : ℕ) → c < classes_in_use → Reaches c (rounded_up s) ↔ (s ≤ value c)
  -- from the other side: a class is reached by itself and those above it, and where there is no class nothing is reached
  pub reaches_class : (c wanted : ℕ) → Reaches c (some wanted) ↔ (wanted ≤ c)
  pub reaches_none : (c : ℕ) → ¬ Reaches c none
  -- the value of the class that s is rounded up to is the least store that serves s, and it is a store; where there is no class, no store serves s
  pub smallest : (s c : ℕ) → rounded_up s ≡ some c → Least (λ n. Serves n s) (value c)
  pub serves_exactly : (n s c : ℕ) → rounded_up s ≡ some c → Serves n s ↔ (value c ≤ n)
  pub smallest_fits : (s c : ℕ) → rounded_up s ≡ some c → value c < 2 ^ 32
  pub none_serves : (s n : ℕ) → rounded_up s ≡ none → ¬ Serves n s
  -- ---- values
  -- a higher class has a higher value
  pub value_increases : (c d : ℕ) → c < d → value c < value d
  -- the classes that a region can have are those whose value 32 bits hold; 64 bits hold the values of the classes 0 to 495
  pub in_32_bits : (c : ℕ) → (c < classes_in_use) ↔ (value c < 2 ^ 32)
  pub in_64_bits : (c : ℕ) → (c ≤ 495) ↔ (value c < 2 ^ 64)
  -- with the greatest number of 64 bits for a value that they do not hold, no higher class has a lower number
  pub in_order : (c d : ℕ) → c ≤ d → min (value c) (2 ^ 64 - 1) ≤ min (value d) (2 ^ 64 - 1)
