-- The digits behind the place are put, and what is left of the number are those before it. Assumes nothing.
use Prim.Native.Nat.{ℕ, ◌+◌, ◌/◌}
use mathlib.Core.Path.{◌≡◌, refl, sym, ap}
use lib.ListN.{length-set}
use Rattle.journal_text.proofs.Decimals.{has_digits, length_more, length_digit}
use Rattle.journal_text.proofs.Backwards.{no_tail, one_before, put_whole}
use native.Mathlib.Omega.{arith}
use Rattle.journal_text.proofs.writing.put_decimal.Goals as goal

pub overflow_sub-place : goal.overflow_sub-place
overflow_sub-place c = omega (arith, c.digits.ensures.0, has_digits c.args.n)

pub loop-rest-init : goal.loop-rest-init
loop-rest-init c = (
  no_tail _ _ _,
  omega (arith, c.digits.ensures.0, has_digits c.args.n),
  ap (λ (k : ℕ). c.args.at + k) (sym c.digits.ensures.0),
  omega (arith, c.digits.ensures.1),
  refl,
)

pub overflow_sub-place-in-loop-rest : goal.overflow_sub-place-in-loop-rest
overflow_sub-place-in-loop-rest c =
    omega (arith, c.loop-rest.invariant.1, length_more c.loop-rest.rest (omega arith), has_digits (c.loop-rest.rest / 10))

pub loop-rest-preserved : goal.loop-rest-preserved
loop-rest-preserved c =
    let shorter = length_more c.loop-rest.rest (omega arith) in
    let some = has_digits (c.loop-rest.rest / 10) in (
      one_before c.loop-rest.invariant.0 (omega arith) (omega (arith, c.loop-rest.invariant.1, shorter, some)) c.digit.ensures,
      omega (arith, c.loop-rest.invariant.1, shorter, some),
      c.loop-rest.invariant.2,
      c.loop-rest.invariant.3,
      simp length-set c.loop-rest.invariant.4,
    )

pub returns : goal.returns
returns c =
    let front : c.loop-rest.place ≡ c.args.at =
    omega (arith, c.loop-rest.invariant.1, length_digit c.loop-rest.rest (omega arith)) in (
      record {
        told = sym c.loop-rest.invariant.2;
        room = omega (arith, c.loop-rest.invariant.2, c.loop-rest.invariant.3, c.requires);
        left = put_whole c.loop-rest.invariant.0 (omega arith) c.digit-2.ensures front;
      },
      c.loop-rest.invariant.3,
    )
