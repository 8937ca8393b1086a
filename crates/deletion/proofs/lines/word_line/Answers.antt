-- `deletion::lines::word_line` meets its contract: the eight bytes are the word's, the highest first. Assumes nothing.
use Rattle.deletion.proofs.Said.{lined_as, word-said}
use Rattle.deletion.proofs.lines.word_line.Goals as goal

pub returns : goal.returns
returns c =
    let a = c.args in
    lined_as (word-said a.kind a.w _ _ _ _ _ _ _ _ c.low.ensures c.low-2.ensures c.low-3.ensures c.low-4.ensures c.low-5.ensures c.low-6.ensures c.low-7.ensures c.low-8.ensures)
    c.line.ensures
