-- Each turn takes a byte more. Assumes nothing.
use Rattle.std.proofs.Common.{◌-◌, ◌≤◌, length}
use Rattle.states.proofs.print_bytes.Given as goal

abbrev pub invariant-loop-i : goal.invariant-loop-i
invariant-loop-i g l = l.i ≤ length l.is

abbrev pub decreases-loop-i : goal.decreases-loop-i
decreases-loop-i g l = length l.is - l.i
