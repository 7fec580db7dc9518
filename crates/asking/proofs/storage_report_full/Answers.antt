-- Shut out by the gate, or let in. Assumes nothing.
use mathlib.Core.Path.{refl, ◌∙◌}
use mathlib.Core.List.{[]}
use Rattle.ledger.specs.Calls.{FullReport, Ask}
use Rattle.tables.specs.Questions.{full_report_of, told_by}
use Rattle.tables.specs.Calls.{edition32, behind}
use Rattle.tables.proofs.Gate.{let_in}
use Rattle.tables.proofs.Commits.{outcome_is}
use Rattle.tables.proofs.Promise.{promise}
use Rattle.records.specs.InWords.{words_of}
use Rattle.records.proofs.GateWalk.{shut_out, opened, has_room}
use Rattle.asking.proofs.storage_report_full.Goals as goal

pub count-requires : goal.count-requires
count-requires c =
    (has_room edition32 (words_of c.args.t [] [] c.args.nodes.now c.args.free_nodes.now) c.test.ensures c.in-Ok.is).nodes_room

pub returns-in-Err : goal.returns-in-Err
returns-in-Err c =
    record {
      exact = promise edition32 (Ask FullReport) _
          (outcome_is c.refuse.ensures.0 refl ∙ shut_out edition32 _ (Ask FullReport) c.test.ensures c.in-Err.is);
      figures = c.refuse.ensures.1;
      places = c.refuse.ensures.2;
    }

pub returns-in-Ok : goal.returns-in-Ok
unfolding behind told_by full_report_of
returns-in-Ok c =
    record {
      exact = promise edition32 (Ask FullReport) _
          (let_in edition32 (Ask FullReport) _ (opened edition32 _ c.test.ensures c.in-Ok.is)
          (outcome_is
          (c.count.ensures.exact c.args.used_bins.now c.args.free_nodes.now)
          refl));
      figures = c.count.ensures.figures;
      places = c.count.ensures.places;
    }
