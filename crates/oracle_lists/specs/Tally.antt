-- How verdicts are counted. Assumes nothing.
use Rattle.std.specs.Prelude.{ℕ, ◌+◌, Bool, cond, eqb, Option, None, Some}
use Rattle.oracle_lists.specs.declared.tally.Verdict.{Verdict}
use Rattle.oracle_lists.specs.declared.tally.Verdict.TheVariants.{Agrees, Listed, Differs}
use Rattle.oracle_lists.specs.declared.tally.Tally.{Tally}

-- what holds agrees, and nothing else does
abbrev pub verdict_if : Bool → Verdict
verdict_if holds = cond holds Agrees Differs

-- a counter that has reached 2^64 - 1 stays there
unfoldable pub one_more : ℕ → ℕ
one_more n = cond (eqb n 18_446_744_073_709_551_615) n (n + 1)

abbrev pub no_rows : Tally
no_rows = record { rows = 0; agreed = 0; listed = 0; other = 0; first = None }

-- rows are numbered from 1 on; the first that differs stays so
abbrev pub first_from : Option ℕ → ℕ → Option ℕ
first_from None row = Some row
first_from (Some first) row = Some first

abbrev pub first_other : Tally → Option ℕ
first_other t = first_from t.first (one_more t.rows)

-- one row more
unfoldable pub counted : Tally → Verdict → Tally
counted t Agrees =
    record { rows = one_more t.rows; agreed = one_more t.agreed; listed = t.listed; other = t.other; first = t.first }
counted t Listed =
    record { rows = one_more t.rows; agreed = t.agreed; listed = one_more t.listed; other = t.other; first = t.first }
counted t Differs =
    record { rows = one_more t.rows; agreed = t.agreed; listed = t.listed; other = one_more t.other; first = first_other t }
