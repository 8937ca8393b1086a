-- `machine::face::dm_check` meets its contract: an `answer` that is too short, and what the checker answers. Assumes nothing.
use Rattle.machine.proofs.Faces.{check-short, check-told}
use Rattle.machine.proofs.face.dm_check.Goals as goal

pub returns-then-answer-lt-ANSWER : goal.returns-then-answer-lt-ANSWER
returns-then-answer-lt-ANSWER c = check-short _ _ c.if-answer-lt-ANSWER.true

pub returns : goal.returns
returns c =
    check-told _ _ c.if-answer-lt-ANSWER.false _ c.check-r.ensures _ c.check_answer.ensures _ _ c.tell.ensures
