-- The measure is the number of bytes left. Assumes nothing.
use Rattle.std.proofs.Common.{◌-◌}
use Rattle.vectors.proofs.read_text.Given as goal

abbrev pub decreases-loop-i : goal.decreases-loop-i
decreases-loop-i g l = l.count - l.i
