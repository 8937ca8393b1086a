-- The measure is the number of results left. Assumes nothing.
use Rattle.std.proofs.Common.{◌-◌}
use Rattle.vectors.proofs.operator.Given as goal

abbrev pub decreases-loop-place : goal.decreases-loop-place
decreases-loop-place g l = l.count - l.place
