-- A byte fewer is left with each turn. Assumes nothing.
use Rattle.std.proofs.Common.{◌≤◌}
use Rattle.runs.proofs.put_payload.Given as goal

abbrev pub invariant-loop-i : goal.invariant-loop-i
invariant-loop-i l = l.i ≤ 8

abbrev pub decreases-loop-i : goal.decreases-loop-i
decreases-loop-i l = l.i
