-- `machine::face::tell6` meets its contract: five stores and one more. Assumes nothing.
use Rattle.machine.proofs.Faces.{told-six}
use Rattle.machine.proofs.face.tell6.Goals as goal

pub returns : goal.returns
returns c = told-six _ _ _ _ _ _ c.tell5-number.ensures _ c.low.ensures _ c.put.ensures
