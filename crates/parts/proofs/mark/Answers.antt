-- Just the part is lent on, and what comes back stands in its place. Assumes nothing.
use Rattle.parts.proofs.Laws.{lent_marked}
use Rattle.parts.proofs.mark.Goals as goal

pub returns : goal.returns
returns c =
    lent_marked c.args.store.now c.fill.new.self c.args.offset c.args.len c.requires
    (c.fill.ensures.after (λ y same. same))
