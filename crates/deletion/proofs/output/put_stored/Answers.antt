-- `deletion::output::put_stored` meets its contract: a refused start's line, or what the run on the budget makes. Assumes nothing.
use Rattle.deletion.proofs.Puts.{put_as}
use Rattle.deletion.proofs.Outputs.{answer-put, start-refused, start-run}
use Rattle.deletion.proofs.output.put_stored.Goals as goal

pub returns-in-Err : goal.returns-in-Err
returns-in-Err c =
    put_as (start-refused _ _ _ _ c.start-c.ensures _ c.in-Err.is _ c.check_answer.ensures)
    (answer-put _ c.requires c.answer_line.ensures)

pub returns-in-Ok : goal.returns-in-Ok
returns-in-Ok c =
    put_as (start-run _ _ _ _ c.start-c.ensures c.in-Ok.is) c.put_run.ensures
