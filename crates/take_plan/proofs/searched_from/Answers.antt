-- The rounding up: said here, so that another is refused here. Assumes nothing.
use Rattle.take_plan.proofs.searched_from.Goals as goal

pub returns : goal.returns
returns c = c.uint_to_float_round_up.ensures
