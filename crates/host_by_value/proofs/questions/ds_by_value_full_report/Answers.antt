-- What the full report by value promises, with its columns in the arrays. Assumes nothing.
use mathlib.Core.Path.{◌∙◌}
use Rattle.host_values.proofs.Figures.{full_number}
use Rattle.host_values.proofs.Kept.{call_moved}
use Rattle.host_by_value.proofs.questions.ds_by_value_full_report.Goals as goal

pub returns : goal.returns
returns c =
    record {
      given = c.storage_report_full-full.result.outcome;
      promised = record {
        exact = call_moved (c.of_arrays-head.ensures _ _) (c.of_arrays-head.ensures _ _) c.storage_report_full-full.ensures.exact;
        figures = c.storage_report_full-full.ensures.figures;
        places = c.storage_report_full-full.ensures.places;
      };
      told = c.number.ensures ∙ full_number c.storage_report_full-full.result.outcome c.storage_report_full-full.result.sizes c.storage_report_full-full.result.counts;
    }
