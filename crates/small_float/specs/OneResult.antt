-- Any two results that the contract of a public function here allows are the same values of the code. proofs/Coincide.antt makes it. Assumes nothing.
use Rattle.std.specs.Prelude.{◌≡◌, ℕ, ◌-◌, ◌^◌, min, Option, Result}
use Rattle.small_float.specs.declared.Size.{Size}
use Rattle.small_float.specs.declared.Class.{Class}
use Rattle.small_float.specs.declared.ext.TooLarge.{TooLarge}
use Rattle.small_float.specs.Class.{down, value, rounded_up}
use Rattle.small_float.specs.RoundedUp.{rounded_to}
use Rattle.small_float.specs.Smallest.{SmallestStore}

pub record OneResult : Type 0 where
  pub of_up : (s : ℕ) (a b : Option Class) → rounded_to a ≡ rounded_up s → rounded_to b ≡ rounded_up s → a ≡ b
  pub of_down : (s : ℕ) (a b : Class) → a.0 ≡ down s → b.0 ≡ down s → a ≡ b
  pub of_value : (c : ℕ) (a b : ℕ) → a ≡ min (value c) (2 ^ 64 - 1) → b ≡ min (value c) (2 ^ 64 - 1) → a ≡ b
  pub of_size : (c : ℕ) (a b : Size) → a.0 ≡ value c → b.0 ≡ value c → a ≡ b
  pub of_smallest : (object : ℕ) (a b : Result Size TooLarge) → SmallestStore object a → SmallestStore object b → a ≡ b
