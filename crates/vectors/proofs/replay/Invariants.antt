-- The measure is the number of turns left. Assumes nothing.
use Rattle.vectors.proofs.replay.Given as goal

abbrev pub decreases-loop-turns : goal.decreases-loop-turns
decreases-loop-turns g l = l.turns
