-- The measure is the number of values left. Assumes nothing.
use Rattle.std.proofs.Common.{◌-◌}
use Rattle.vectors.proofs.read_values.Given as goal

abbrev pub decreases-loop-i : goal.decreases-loop-i
decreases-loop-i g l = l.count - l.i
