-- What the setup in place promises of the scalars that were read, with its own in the array. Assumes nothing.
use Rattle.records.specs.InWords.{of_array}
use Rattle.host_packets.proofs.Moved.{store_kept, anywhere}
use Rattle.host_packets.proofs.setups.ds_packet_set_up.Goals as goal

pub returns : goal.returns
returns c =
    let left = store_kept _ _ _ _ _ c.keep.ensures in
    record {
      given = _;
      promised = anywhere c.args.beside.now c.args.bytes_beside.now c.of_array-other.ensures left
          (λ s heads leaves nodes pile. c.set_up-started.ensures s (of_array c.args.scalars.now) heads leaves nodes pile);
      told = c.number.ensures;
    }
