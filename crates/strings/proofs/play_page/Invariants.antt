-- Each line leaves fewer bytes. Assumes nothing.
use Rattle.std.proofs.Common.{◌+◌, ◌-◌, ◌≤◌, length}
use Rattle.strings.proofs.play_page.Given as goal

abbrev pub invariant-loop-at : goal.invariant-loop-at
invariant-loop-at g l = l.at ≤ length l.page + 1

abbrev pub decreases-loop-at : goal.decreases-loop-at
decreases-loop-at g l = length l.page + 1 - l.at
