-- When a row of the list of runs agrees with the row that the port would write, and when it shows a listed difference. Assumes nothing.
use Rattle.std.specs.Prelude.{cond, eqb, Option, None, Some}
use Rattle.oracle_lists.specs.declared.rows.Reader.{Reader}
use Rattle.call_verdicts.specs.declared.Said.{Said}
use Rattle.oracle_lists.specs.declared.tally.Verdict.{Verdict}
use Rattle.oracle_lists.specs.declared.tally.Verdict.TheVariants.{Agrees, Listed, Differs}

-- rows of one letter: u and m, whose last number is a length that the Rust alone gives, and b and w are the listed differences
unfoldable pub same_numbers : Reader → Said → Verdict
same_numbers r s =
    cond (eqb r.c s.c)
    (cond (eqb r.letter 117) Listed
    (cond (eqb r.letter 109) Listed
    (cond (eqb r.d s.d) (cond (eqb r.letter 98) Listed (cond (eqb r.letter 119) Listed Agrees)) Differs)))
    Differs

-- one form's answer; no row agrees with one that no row says
unfoldable pub call_verdict : Reader → Option Said → Verdict
call_verdict r (Some s) = cond (eqb r.letter s.letter) (same_numbers r s) Differs
call_verdict r None = Differs

-- both forms' verdicts on one row
abbrev pub both_verdict : Verdict → Verdict → Verdict
both_verdict Agrees Agrees = Agrees
both_verdict Agrees Listed = Differs
both_verdict Agrees Differs = Differs
both_verdict Listed Agrees = Differs
both_verdict Listed Listed = Listed
both_verdict Listed Differs = Differs
both_verdict Differs v = Differs
