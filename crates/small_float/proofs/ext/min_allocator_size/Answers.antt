-- Where there is a class, it is one that a region can have, and its value is the store; where there is none, the object is refused. Assumes nothing.
use Prim.Native.Nat.{ℕ}
use mathlib.Core.Path.{◌≡◌}
use mathlib.Core.Option.{none, some}
use native.Mathlib.Omega.{arith}
use borrow.Author.Tests.{lt-ltb, le-ltb}
use Rattle.std.specs.Prelude.{Some, None, Ok, Err}
use Rattle.std.proofs.lemmas.Result.{err_from_is_err_and}
use Rattle.small_float.specs.declared.Size.{Size}
use Rattle.small_float.specs.Class.{value, greatest_served, rounded_up}
use Rattle.small_float.specs.Smallest.{SmallestStore}
use Rattle.small_float.proofs.Facts.{class_facts}
use Rattle.small_float.proofs.Told.{told_class, told_none, class_in_use}
use Rattle.small_float.proofs.ext.min_allocator_size.Goals as goal

-- the two answers, each where it is right
refused : (object : ℕ) → rounded_up object ≡ none → SmallestStore object (Err record {})
refused object e = record { number = rw (lt-ltb greatest_served object ((class_facts.no_class object).0 e)); figure = rw e }

served : (object class : ℕ) (store : Size) → rounded_up object ≡ some class → store.0 ≡ value class → SmallestStore object (Ok store)
served object class store e v = record { number = rw (le-ltb greatest_served object ((class_facts.a_class object class).0 e).0); figure = rw e v }

pub returns-in_err-class : goal.returns-in_err-class
returns-in_err-class c =
    let is : c.uint_to_float_round_up.result ≡ None = grind arith in
    let left = err_from_is_err_and c.from_residual.result c.from_residual.ensures.1 in
    rw left.1 (refused _ (told_none c.uint_to_float_round_up.ensures is))

pub size_of_class-requires : goal.size_of_class-requires
size_of_class-requires c =
    let is : c.uint_to_float_round_up.result ≡ Some c.in_ok-class.class = grind arith in
    class_in_use _ _ (told_class c.uint_to_float_round_up.ensures is)

pub returns : goal.returns
returns c =
    let is : c.uint_to_float_round_up.result ≡ Some c.in_ok-class.class = grind arith in
    served _ _ _ (told_class c.uint_to_float_round_up.ensures is) c.size_of_class.ensures
