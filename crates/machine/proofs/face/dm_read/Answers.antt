-- `machine::face::dm_read` meets its contract: an `answer` that is too short, and what the reader answers. Assumes nothing.
use Rattle.machine.proofs.Faces.{read_short, read_told}
use Rattle.machine.proofs.face.dm_read.Goals as goal

pub returns-then-answer-lt-ANSWER : goal.returns-then-answer-lt-ANSWER
returns-then-answer-lt-ANSWER c = read_short _ _ _ c.if-answer-lt-ANSWER.true

pub returns : goal.returns
returns c =
    read_told _ _ _ c.if-answer-lt-ANSWER.false _ _ c.read-r.ensures _ c.read_answer.ensures _ _ c.tell.ensures
