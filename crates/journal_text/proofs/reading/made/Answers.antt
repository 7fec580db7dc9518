-- What is made so far and the digits that are left make the number. Assumes nothing.
use Prim.Native.Nat.{ℕ, ◌+◌, ◌*◌, ◌^◌, ◌≤◌}
use mathlib.Core.Path.{◌≡◌, ap, ◌∙◌}
use lib.ListN.{drop}
use borrow.Author.Tests.{lt-ltb, le-ltb}
use Rattle.journal_text.specs.Words.{is_digit}
use Rattle.journal_text.specs.Lines.{made_on, valued}
use Rattle.journal_text.proofs.Scanning.{each_such}
use Rattle.journal_text.proofs.Decimals.{made_grows, made_next, made_all}
use native.Mathlib.Omega.{arith}
use Rattle.journal_text.proofs.reading.made.Goals as goal

pub figure-requires : goal.figure-requires
figure-requires c = each_such is_digit _ _ c.requires (omega arith)

pub returns-then-from-n : goal.returns-then-from-n
unfolding valued
returns-then-from-n c =
    let i : ℕ = c.loop-byte.byte-index in
    let m = 10 * c.loop-byte.n + c.figure.result in
    let next = made_next c.loop-byte.n m c.args.word.now i (omega arith) (omega (arith, c.figure.ensures.0)) in
    let large : 2 ^ 32 ≤ made_on 0 c.args.word.now = omega (arith, c.loop-byte.invariant.1, next, made_grows m (drop (i + 1) c.args.word.now)) in
    rw (le-ltb (made_on 0 c.args.word.now) (2 ^ 32) large)

pub loop-byte-preserved : goal.loop-byte-preserved
loop-byte-preserved c = (
  omega arith,
  c.loop-byte.invariant.1 ∙ made_next _ _ c.args.word.now c.loop-byte.byte-index (omega arith) (ap (λ (d : ℕ). 10 * c.loop-byte.n + d) c.figure.ensures.0),
)

pub returns : goal.returns
unfolding valued
returns c =
    let whole : made_on 0 c.args.word.now ≡ c.loop-byte.n = c.loop-byte.invariant.1 ∙ made_all _ _ c.loop-byte.byte-index (omega arith) in
    rw (whole, lt-ltb c.loop-byte.n (2 ^ 32) c.loop-byte.invariant.0)
