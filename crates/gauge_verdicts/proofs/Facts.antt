-- What the verdict on a row of the gauge's list tells, made. Assumes nothing.
use Rattle.gauge_verdicts.specs.Facts.{RowFacts}
use Rattle.gauge_verdicts.proofs.OneAnswer.{one_float, not_a_number, one_reading, not_both, one_gauge}

pub row_facts : RowFacts
row_facts =
    record { one_float = one_float; not_a_number = not_a_number; one_reading = one_reading; not_both = not_both; one_gauge = one_gauge }
