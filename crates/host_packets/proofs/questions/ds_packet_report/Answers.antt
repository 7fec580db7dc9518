-- The report that the layer tells of the same store, in the stores whose scalars were read. Assumes nothing.
use mathlib.Core.Path.{ap}
use Rattle.packets.specs.declared.Store.{Store}
use Rattle.ledger.specs.Calls.{Ask, Report}
use Rattle.packets.specs.Calls.{ReportOf}
use Rattle.host_packets.proofs.Moved.{store_read, both_so, packet_moved}
use Rattle.host_packets.proofs.questions.ds_packet_report.Goals as goal

pub returns : goal.returns
returns c =
    let found = both_so (store_read c.args.on_scalars.now _ _ _ _ _ c.of_array-on_chip.ensures)
    (store_read c.args.ex_scalars.now _ _ _ _ _ c.of_array-external.ensures) in
    record {
      given = _;
      promised = packet_moved found found (ap (λ (s : Store). ReportOf s) c.from-meant.ensures) c.report.ensures;
      told = c.of_told.ensures (Ask Report);
    }
