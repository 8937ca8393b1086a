use Rattle.std.proofs.Common.{◌-◌, length}
use Rattle.reader.proofs.JudgeLaws.{Going}
use Rattle.reader.proofs.judge.judge.Given as goal

abbrev pub invariant-loop-at : goal.invariant-loop-at
invariant-loop-at l = Going l.s l.at l.line l.st

abbrev pub decreases-loop-at : goal.decreases-loop-at
decreases-loop-at l = length l.s - l.at
