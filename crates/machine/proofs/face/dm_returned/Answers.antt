-- `machine::face::dm_returned` meets its contract: an `answer` that is too short, and where the values are. Assumes nothing.
use Rattle.machine.proofs.Faces.{returned-short, returned-told}
use Rattle.machine.proofs.face.dm_returned.Goals as goal

pub returns-then-answer-lt-ANSWER : goal.returns-then-answer-lt-ANSWER
returns-then-answer-lt-ANSWER c = returned-short _ _ _ c.if-answer-lt-ANSWER.true

pub returns : goal.returns
returns c =
    returned-told _ _ _ c.if-answer-lt-ANSWER.false _ c.returned-r.ensures _ _ c.tell6.ensures
