-- Any two results that a contract of this crate allows coincide. Assumes nothing.
use mathlib.Core.Path.{◌≡◌, sym, ap, ◌∙◌}
use Prim.Native.Nat.{ℕ}
use native.Mathlib.Omega.{arith}
use mathlib.Core.Option.{Option as Maybe}
use Rattle.std.specs.Prelude.{Option, Some, None, Result, Ok, Err}
use Rattle.basics.proofs.Clash.{clash}
use Rattle.small_float.specs.declared.Size.{Size}
use Rattle.small_float.specs.declared.Class.{Class}
use Rattle.small_float.specs.declared.ext.TooLarge.{TooLarge}
use Rattle.small_float.specs.RoundedUp.{rounded_to}
use Rattle.small_float.specs.Smallest.{SmallestStore, refusal_of, store_of}
use Rattle.small_float.specs.OneResult.{OneResult}

-- a class, or a size, is given by its number
pub one_class : {n : ℕ} (a b : Class) → a.0 ≡ n → b.0 ≡ n → a ≡ b
one_class a b p q = λ i. record { 0 = (p ∙ sym q) i }

pub one_size : {n : ℕ} (a b : Size) → a.0 ≡ n → b.0 ≡ n → a ≡ b
one_size a b p q = λ i. record { 0 = (p ∙ sym q) i }

-- what a size is rounded up to is given by the class, or that there is none
same_rounding : (a b : Option Class) → rounded_to a ≡ rounded_to b → a ≡ b
same_rounding (Some c) (Some d) e = let number : c.0 ≡ d.0 = cc in ap Some (one_class c d number (λ i. d.0))
same_rounding (Some c) None e = clash (cc)
same_rounding None (Some d) e = clash (cc)
same_rounding None None e = λ i. None

pub one_rounding : {wanted : Maybe ℕ} (a b : Option Class) → rounded_to a ≡ wanted → rounded_to b ≡ wanted → a ≡ b
one_rounding a b p q = same_rounding a b (p ∙ sym q)

-- an answer to the smallest-store question is given by its number and its figure
same_answer : (a b : Result Size TooLarge) → refusal_of a ≡ refusal_of b → store_of a ≡ store_of b → a ≡ b
same_answer (Ok s) (Ok t) n f = ap Ok (λ i. record { 0 = f i })
same_answer (Ok s) (Err why) n f = absurd (omega arith)
same_answer (Err why) (Ok t) n f = absurd (omega arith)
same_answer (Err why) (Err other) n f = λ i. Err record {}

pub one_answer : (object : ℕ) (a b : Result Size TooLarge) → SmallestStore object a → SmallestStore object b → a ≡ b
one_answer object a b p q = same_answer a b (p.number ∙ sym q.number) (p.figure ∙ sym q.figure)

pub one_result : OneResult
one_result = record {
  of_up = λ s. one_rounding;
  of_down = λ s. one_class;
  of_value = λ c a b p q. p ∙ sym q;
  of_size = λ c. one_size;
  of_smallest = one_answer;
}
