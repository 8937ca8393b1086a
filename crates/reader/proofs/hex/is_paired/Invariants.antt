use Rattle.std.proofs.Common.{◌-◌, ◌≤◌, length}
use Rattle.reader.proofs.HexLaws.{Tested}
use Rattle.reader.proofs.hex.is_paired.Given as goal

abbrev pub invariant-loop-i : goal.invariant-loop-i
invariant-loop-i l = (l.i ≤ length l.s) × Tested l.s l.i l.bad

abbrev pub decreases-loop-i : goal.decreases-loop-i
decreases-loop-i l = length l.s - l.i
