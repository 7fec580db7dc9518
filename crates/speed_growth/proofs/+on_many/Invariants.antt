-- The measure is how often it is done again. Assumes nothing.
use Rattle.speed_growth.proofs.+on_many.Given as goal

abbrev pub decreases-on_many : goal.decreases-on_many
decreases-on_many g l = l.again
