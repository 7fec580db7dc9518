-- Just the part is lent on, and what comes back stands in its place. Assumes nothing.
use Rattle.parts.proofs.Laws.{lent_over}
use Rattle.parts.proofs.fill.Goals as goal

pub returns : goal.returns
returns c =
    lent_over c.args.store.now c.fill_front.new.part c.args.bytes.now c.args.offset c.args.len c.requires.len_in_bounds c.requires.bytes_len_bound
    c.fill_front.ensures
