-- Each result leaves fewer bytes of the line. Assumes nothing.
use Rattle.std.proofs.Common.{◌-◌, length}
use Rattle.strings.proofs.compare_row.Given as goal

abbrev pub decreases-loop-at : goal.decreases-loop-at
decreases-loop-at l = length l.line - l.at
