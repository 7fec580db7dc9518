-- The answer is told as it was given. Assumes nothing.
use Rattle.calling_in_place.proofs.Changes.{change_told}
use Rattle.calling_in_place.proofs.change.Goals as goal

pub returns : goal.returns
returns c =
    change_told c.args.call c.of_answer.ensures c.make-made.ensures
