-- `storage::descriptors` meets its contract: where the table ends before cell q, it ends before q's descriptors too. Assumes nothing.
use native.Mathlib.Omega.{arith}
use Rattle.slices.proofs.Loops.{past}
use Rattle.storage.specs.Fields.{descriptors_place}
use Rattle.storage.proofs.descriptors.Goals as goal

pub returns-then-table-q : goal.returns-then-table-q
returns-then-table-q c = let a = c.args in past a.table.now (descriptors_place a.q) (omega arith)
