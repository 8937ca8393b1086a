use Rattle.std.proofs.Common.{◌≡◌, ◌+◌, ◌-◌}
use Rattle.checker.specs.Check.{code_from, protos_from, search_of}
use Rattle.checker.proofs.search.Given as goal

abbrev pub invariant-loop-i : goal.invariant-loop-i
invariant-loop-i l =
    search_of l.table l.code ≡ code_from l.table l.code l.q (l.instructions - l.i) l.i (protos_from l.table l.code (l.prototypes - (l.q + 1)) (l.q + 1))

abbrev pub invariant-loop-q : goal.invariant-loop-q
invariant-loop-q l = search_of l.table l.code ≡ protos_from l.table l.code (l.prototypes - l.q) l.q
