-- A value fewer is left with each turn. Assumes nothing.
use Rattle.std.proofs.Common.{◌-◌}
use Rattle.runs.proofs.print_returned.Given as goal

abbrev pub decreases-loop-i : goal.decreases-loop-i
decreases-loop-i g l = l.n - l.i
