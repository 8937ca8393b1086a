-- There are nine at most. Assumes nothing.
use Rattle.std.proofs.Common.{◌-◌, ◌≤◌}
use Rattle.deletion.proofs.arguments.Given as goal

abbrev pub invariant-loop-n : goal.invariant-loop-n
invariant-loop-n g l = l.n ≤ 9

abbrev pub decreases-loop-n : goal.decreases-loop-n
decreases-loop-n g l = 9 - l.n
