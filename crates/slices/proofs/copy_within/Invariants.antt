use Rattle.std.proofs.Common.{◌≡◌, ◌+◌, ◌-◌}
use Rattle.slices.specs.Ranges.{copied_within}
use Rattle.slices.proofs.copy_within.Given as goal

abbrev pub invariant-loop-i : goal.invariant-loop-i
invariant-loop-i g l = copied_within g.T.Zero.zero l.i-end l.initial.s l.src l.dst ≡ copied_within g.T.Zero.zero (l.i-end - l.i) l.s (l.src + l.i) (l.dst + l.i)
