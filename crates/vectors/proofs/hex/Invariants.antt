-- The measure is the number of digits left. Assumes nothing.
use Rattle.vectors.proofs.hex.Given as goal

abbrev pub decreases-loop-left : goal.decreases-loop-left
decreases-loop-left g l = l.left
