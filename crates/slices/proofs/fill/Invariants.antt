use Rattle.std.proofs.Common.{◌≡◌, ◌+◌, ◌-◌}
use Rattle.slices.specs.Ranges.{filled, stores}
use Rattle.slices.proofs.fill.Given as goal

abbrev pub invariant-loop-i : goal.invariant-loop-i
invariant-loop-i g l = filled l.i-end l.initial.s l.dst l.x ≡ stores (λ held at. l.x) (l.i-end - l.i) l.s (l.dst + l.i) (l.dst + l.i)
