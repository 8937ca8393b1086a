-- `machine::face::dm_write` meets its contract: an `answer` that is too short, and what the writer answers. Assumes nothing.
use Rattle.machine.proofs.Faces.{write-short, write-told}
use Rattle.machine.proofs.face.dm_write.Goals as goal

pub returns-then-answer-lt-ANSWER : goal.returns-then-answer-lt-ANSWER
returns-then-answer-lt-ANSWER c = write-short _ _ _ c.if-answer-lt-ANSWER.true

pub returns : goal.returns
returns c =
    write-told _ _ _ c.if-answer-lt-ANSWER.false _ _ c.write-r.ensures _ c.write_answer.ensures _ c.bytes_of.ensures _ _ c.tell5.ensures
