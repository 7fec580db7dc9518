-- The length that the layer tells of the same packet, in the stores whose scalars were read. Assumes nothing.
use mathlib.Core.Path.{ap}
use Rattle.packets.specs.declared.Packet.{Packet}
use Rattle.ledger.specs.Calls.{asks_size}
use Rattle.packets.specs.Calls.{LengthOf}
use Rattle.answers.specs.Asked.{token_of}
use Rattle.host_packets.proofs.Moved.{store_read, both_so, packet_moved}
use Rattle.host_packets.proofs.questions.ds_packet_length.Goals as goal

pub returns : goal.returns
returns c =
    let found = both_so (store_read c.args.on_scalars.now _ _ _ _ _ c.of_array-on_chip.ensures)
    (store_read c.args.ex_scalars.now _ _ _ _ _ c.of_array-external.ensures) in
    record {
      given = _;
      promised = packet_moved found found (ap (λ (p : Packet). LengthOf p.store (token_of p.span)) c.packet_of-packet.ensures) c.length.ensures;
      told = c.of_told.ensures (asks_size c.args.offset c.args.handle);
    }
