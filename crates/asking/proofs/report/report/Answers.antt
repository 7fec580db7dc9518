-- The code is `report_of`. Assumes nothing.
use mathlib.Core.Logic.{◌≢◌}
use native.Mathlib.Omega.{arith}
use borrow.Author.Tests.{eq-eqb, ne_eqb}
use Rattle.tables.specs.Questions.{report_class, report_leaf, report_top, report_of}
use Rattle.asking.proofs.report.report.Goals as goal

pub returns-then-t-eq0 : goal.returns-then-t-eq0
unfolding report_of
returns-then-t-eq0 c = rw (c.figures.ensures, eq-eqb _ _ c.if-t-eq0.true)

pub returns-then-top-eq0 : goal.returns-then-top-eq0
unfolding report_of
returns-then-top-eq0 c =
    let some : c.args.t.free_offset ≢ 0 = omega arith in
    rw (c.figures-then-top-eq0.ensures, ne_eqb _ _ some, eq-eqb _ _ c.if-top-eq0.true)

pub returns : goal.returns
unfolding report_of report_top report_leaf report_class
returns c =
    let some : c.args.t.free_offset ≢ 0 = omega arith in
    rw (
      c.report_top.ensures,
      c.highest_bit_set.ensures.0,
      ne_eqb _ _ some,
      ne_eqb _ _ c.if-top-eq0.false,
    )
