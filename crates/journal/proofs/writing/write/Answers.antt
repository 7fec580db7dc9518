-- By whether there is room. Assumes nothing.
use mathlib.Core.Path.{sym, ◌∙◌}
use Rattle.journal.proofs.Outcomes.{is_written}
use Rattle.journal.proofs.writing.write.Goals as goal

pub returns : goal.returns
returns c =
    is_written c.args.call c.args.out.now c.args.at c.bytes_of-wanted.result c.bytes_of-wanted.ensures _
    (sym c.has_room.ensures ∙ c.if-not-has_room.false) c.put.ensures
