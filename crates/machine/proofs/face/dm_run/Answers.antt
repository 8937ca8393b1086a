-- `machine::face::dm_run` meets its contract: an `answer` that is too short, and what a run answers. Assumes nothing.
use Rattle.machine.proofs.Faces.{run_short, run-told}
use Rattle.machine.proofs.face.dm_run.Goals as goal

pub returns-then-answer-lt-ANSWER : goal.returns-then-answer-lt-ANSWER
returns-then-answer-lt-ANSWER c = run_short _ _ _ _ c.if-answer-lt-ANSWER.true

pub returns : goal.returns
returns c =
    run-told _ _ _ _ c.if-answer-lt-ANSWER.false _ _ c.run-o.ensures _ _ c.tell.ensures
