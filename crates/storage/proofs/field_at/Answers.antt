-- `storage::field_at` meets its contract: where the table ends before cell q, it ends before q's entry too. Assumes nothing.
use Prim.Native.Nat.{◌+◌}
use native.Mathlib.Omega.{arith}
use Rattle.slices.proofs.Loops.{past}
use Rattle.storage.specs.Fields.{entry_place}
use Rattle.storage.proofs.field_at.Goals as goal

pub returns-then-table-q : goal.returns-then-table-q
returns-then-table-q c = let a = c.args in past a.table.now (entry_place a.q + a.i) (omega arith)
