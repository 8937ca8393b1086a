-- `machine::face::tell5` meets its contract: four stores and one more. Assumes nothing.
use Rattle.machine.proofs.Faces.{told-five}
use Rattle.machine.proofs.face.tell5.Goals as goal

pub returns : goal.returns
returns c = told-five _ _ _ _ _ c.tell-number.ensures _ c.low.ensures _ c.put.ensures
