-- Each turn stores one byte more. Assumes nothing.
use Rattle.std.proofs.Common.{◌-◌}
use Rattle.images.proofs.put_said.Given as goal

abbrev pub decreases-loop-i : goal.decreases-loop-i
decreases-loop-i l = l.n - l.i
