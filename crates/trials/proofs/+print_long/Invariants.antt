-- The measure is the number of words. Assumes nothing.
use Rattle.trials.proofs.+print_long.Given as goal

abbrev pub decreases-print_long : goal.decreases-print_long
decreases-print_long g l = l.words
