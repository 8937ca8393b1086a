-- `machine::face::dm_start` meets its contract: an `answer` that is too short, and what a start answers. Assumes nothing.
use Rattle.machine.proofs.Faces.{start-short, start-told}
use Rattle.machine.proofs.face.dm_start.Goals as goal

pub returns-then-answer-lt-ANSWER : goal.returns-then-answer-lt-ANSWER
returns-then-answer-lt-ANSWER c = start-short _ _ _ _ _ c.if-answer-lt-ANSWER.true

pub returns : goal.returns
returns c =
    start-told _ _ _ _ _ c.if-answer-lt-ANSWER.false _ _ c.start-r.ensures _ c.check_answer.ensures _ _ c.tell.ensures
