-- `machine::face::tell` meets its contract: five stores, one after the other. Assumes nothing.
use Rattle.machine.proofs.Faces.{told-outcome}
use Rattle.machine.proofs.face.tell.Goals as goal

pub returns : goal.returns
returns c =
    told-outcome _ _ _ c.put.ensures _ c.put-2.ensures _ c.low.ensures _ c.put-3.ensures _ c.low-2.ensures _
    c.put-4.ensures _ c.low-3.ensures _ c.put-5.ensures
