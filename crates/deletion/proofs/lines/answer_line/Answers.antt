-- `deletion::lines::answer_line` meets its contract: the ten bytes are the answer's. Assumes nothing.
use Rattle.deletion.proofs.Said.{lined_as, answer-said}
use Rattle.deletion.proofs.lines.answer_line.Goals as goal

pub returns : goal.returns
returns c =
    lined_as
    (answer-said c.args.o _ _ _ _ _ _ _ _ c.low.ensures c.low-2.ensures c.low-3.ensures c.low-4.ensures c.low-5.ensures
    c.low-6.ensures c.low-7.ensures c.low-8.ensures)
    c.line.ensures
