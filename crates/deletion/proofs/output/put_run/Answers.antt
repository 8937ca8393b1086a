-- `deletion::output::put_run` meets its contract: the answer's line, and behind it the values. Assumes nothing.
use Rattle.deletion.proofs.Outputs.{answer-put, values-room, run-put}
use Rattle.deletion.proofs.output.put_run.Goals as goal

pub put_values-requires : goal.put_values-requires
put_values-requires c =
    values-room _ _ _ _ c.returned-r.ensures _ c.shown-n.ensures (answer-put _ c.requires c.answer_line-at.ensures) c.requires

pub returns : goal.returns
returns c =
    run-put _ _ _ _ c.returned-r.ensures _ c.shown-n.ensures (answer-put _ c.requires c.answer_line-at.ensures) _ _ c.run-o.ensures
    c.put_values.ensures
