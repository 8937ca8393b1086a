use Prim.Native.Nat.{◌-◌}
use Rattle.storage.specs.Layout.{storage}
use Rattle.storage.proofs.Walk.{Walk}
use Rattle.storage.proofs.valid.Given as goal

abbrev pub invariant-loop-b : goal.invariant-loop-b
invariant-loop-b l = Walk l.t l.st l.b (storage l.table l.code l.const_kinds l.const_words l.texts)

abbrev pub decreases-loop-b : goal.decreases-loop-b
decreases-loop-b l = 65537 - l.b
