-- What the setup in place promises, with the scalars in the arrays. Assumes nothing.
use Rattle.records.specs.InWords.{of_array}
use Rattle.host_packets.proofs.Moved.{store_kept, both_so, both_moved}
use Rattle.host_packets.proofs.setups.ds_packet_set_up_both.Goals as goal

pub returns : goal.returns
returns c =
    let on-left = store_kept _ _ _ _ _ c.keep.ensures in
    let ex-left = store_kept _ _ _ _ _ c.keep-2.ensures in
    record {
      given = _;
      promised = both_moved (both_so on-left ex-left)
          (c.set_up_both-started.ensures (of_array c.args.on_scalars.now) (of_array c.args.ex_scalars.now));
      told = c.number.ensures;
    }
