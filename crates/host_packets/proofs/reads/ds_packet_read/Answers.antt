-- What the read in place promises of the scalars that were read, and what was copied. Assumes nothing.
use mathlib.Core.Path.{ap}
use Rattle.answers.specs.Asked.{token_of}
use Rattle.packets.specs.declared.Packet.{Packet}
use Rattle.packets.specs.Calls.{Read}
use Rattle.host_packets.proofs.Moved.{store_read, both_so, packet_moved}
use Rattle.host_packets.proofs.reads.ds_packet_read.Goals as goal

pub returns : goal.returns
returns c =
    let on = store_read c.args.on_scalars.now _ _ _ _ _ c.of_array-on_chip.ensures in
    let ex = store_read c.args.ex_scalars.now _ _ _ _ _ c.of_array-external.ensures in
    let asked = ap (λ (p : Packet). Read p.store (token_of p.span)) c.packet_of-packet.ensures in
    record {
      given = _;
      promised = record {
        read = packet_moved (both_so on ex) (both_so on ex) asked c.read-part.ensures;
        copied = c.shown.ensures.1;
      };
      told = c.shown.ensures.0;
    }
