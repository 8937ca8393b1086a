use Rattle.std.proofs.Common.{◌≡◌, ◌+◌, ◌-◌}
use Rattle.slices.specs.Ranges.{copied_from}
use Rattle.slices.proofs.copy_from.Given as goal

abbrev pub invariant-loop-i : goal.invariant-loop-i
invariant-loop-i g l = copied_from g.T.Zero.zero l.i-end l.from l.src l.initial.s l.dst ≡ copied_from g.T.Zero.zero (l.i-end - l.i) l.from (l.src + l.i) l.s (l.dst + l.i)
