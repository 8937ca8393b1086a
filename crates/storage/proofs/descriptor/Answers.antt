-- `storage::descriptor` meets its contract: where the table ends before cell q or cell i, it ends before q's descriptor i too. Assumes nothing.
use Prim.Native.Nat.{◌+◌}
use native.Mathlib.Omega.{arith}
use Rattle.slices.proofs.Loops.{past}
use Rattle.storage.specs.Fields.{descriptors_place}
use Rattle.storage.proofs.descriptor.Goals as goal

pub returns-then-table-q : goal.returns-then-table-q
returns-then-table-q c = let a = c.args in past a.table.now (descriptors_place a.q + (1 + a.i)) (omega arith)

pub returns-then-table-i : goal.returns-then-table-i
returns-then-table-i c =
    let a = c.args in past a.table.now (descriptors_place a.q + (1 + a.i)) (omega arith)
