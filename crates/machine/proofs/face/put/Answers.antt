-- `machine::face::put` meets its contract: past the end `set` changes nothing. Assumes nothing.
use Rattle.slices.proofs.Loops.{past-set}
use Rattle.machine.proofs.face.put.Goals as goal

pub returns-else-at-answer : goal.returns-else-at-answer
returns-else-at-answer c = let a = c.args in past-set a.answer.now a.at a.x c.if-at-answer.false
