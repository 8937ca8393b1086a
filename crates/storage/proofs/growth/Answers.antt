-- `storage::growth` meets its contract: where the table ends before cell q, the next entry reads as zeros. Assumes nothing.
use Prim.Native.Nat.{ℕ, ◌+◌, ◌-◌, ◌≤◌}
use mathlib.Core.Path.{◌≡◌}
use mathlib.Core.List.{List}
use native.Mathlib.Omega.{arith}
use lib.ListN.{length, get_or}
use Rattle.slices.proofs.Loops.{past}
use Rattle.storage.specs.Fields.{entry_place}
use Rattle.storage.proofs.growth.Goals as goal

none : (l : List ℕ) (q i : ℕ) → length l ≤ q → 0 ≡ get_or l (entry_place (q + 1) + i) 0 - get_or l (entry_place q + i) 0
none l q i h = omega (arith, past l (entry_place (q + 1) + i) (omega arith))

pub returns-then-table-q : goal.returns-then-table-q
returns-then-table-q c = let a = c.args in none a.table.now a.q a.i c.if-table-q.true
