-- The measure is the room left in the line. Assumes nothing.
use Rattle.vectors.proofs.echo_line.Given as goal

abbrev pub decreases-loop-left : goal.decreases-loop-left
decreases-loop-left g l = l.left
