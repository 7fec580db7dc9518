-- What is asked of each form of the calls, and whose verdict counts: a form that is not compared is asked nothing. Assumes nothing.
use Rattle.oracle_lists.specs.declared.tally.Verdict.{Verdict}
use Rattle.call_verdicts.specs.Verdicts.{both_verdict}
use Rattle.call_values.specs.declared.call.Call.{Call}
use Rattle.std.specs.Prelude.{Option, None}
use Rattle.run_rows.specs.declared.forms.Forms.{Forms}
use Rattle.run_rows.specs.declared.forms.Forms.TheVariants.{Both, InPlace, ByValue}

abbrev pub in_place : Forms → Option Call → Option Call
in_place Both c = c
in_place InPlace c = c
in_place ByValue c = None

abbrev pub by_value : Forms → Option Call → Option Call
by_value Both c = c
by_value InPlace c = None
by_value ByValue c = c

abbrev pub verdict_of : Forms → (placed valued : Verdict) → Verdict
verdict_of Both placed valued = both_verdict placed valued
verdict_of InPlace placed valued = placed
verdict_of ByValue placed valued = valued
