-- By the tests that the model makes too. Assumes nothing.
use Prim.Native.Nat.{◌+◌}
use borrow.Author.Tests.{lt-ltb, le-ltb, eq-eqb, ne_eqb}
use Rattle.audit_words.specs.Chain.{good_region}
use native.Mathlib.Omega.{arith}
use Rattle.audit_chain.proofs.chain.good_region.Goals as goal

pub returns-then-m-r : goal.returns-then-m-r
unfolding good_region
returns-then-m-r c = rw (le-ltb _ _ c.if-m-r.true)

pub returns-then-marked-ne0 : goal.returns-then-marked-ne0
unfolding good_region
returns-then-marked-ne0 c = rw (lt-ltb _ _ c.if-m-r.false, ← c.marked.ensures, ne_eqb _ _ c.if-marked-ne0.true)

pub returns-then-word-w : goal.returns-then-word-w
unfolding good_region
returns-then-word-w c = rw (
  lt-ltb _ _ c.if-m-r.false,
  ← c.marked.ensures,
  eq-eqb _ _ c.if-marked-ne0.false,
  ← c.word.ensures,
  ne_eqb _ _ c.if-word-w.true,
)

pub returns-then-word-w-2 : goal.returns-then-word-w-2
unfolding good_region
returns-then-word-w-2 c =
    rw (
      lt-ltb _ _ c.if-m-r.false,
      ← c.marked.ensures,
      eq-eqb _ _ c.if-marked-ne0.false,
      ← c.word.ensures,
      eq-eqb _ _ c.if-word-w.false,
      ← c.word-2.ensures,
      ne_eqb _ _ c.if-word-w-2.true,
    )

pub returns-then-size-w : goal.returns-then-size-w
unfolding good_region
returns-then-size-w c =
    rw (
      lt-ltb _ _ c.if-m-r.false,
      ← c.marked.ensures,
      eq-eqb _ _ c.if-marked-ne0.false,
      ← c.word.ensures,
      eq-eqb _ _ c.if-word-w.false,
      ← c.word-2.ensures,
      eq-eqb _ _ c.if-word-w-2.false,
      ← c.word-3.ensures,
      lt-ltb c.args.size (c.args.w.offset + c.word-3.result) (omega arith),
    )

pub returns : goal.returns
unfolding good_region
returns c =
    rw (
      lt-ltb _ _ c.if-m-r.false,
      ← c.marked.ensures,
      eq-eqb _ _ c.if-marked-ne0.false,
      ← c.word.ensures,
      eq-eqb _ _ c.if-word-w.false,
      ← c.word-2.ensures,
      eq-eqb _ _ c.if-word-w-2.false,
      ← c.word-3.ensures,
      le-ltb c.args.size (c.args.w.offset + c.word-3.result) (omega (arith, c.if-size-w.false, c.requires)),
      ← c.word-4.ensures,
    ) c.good_used.ensures
