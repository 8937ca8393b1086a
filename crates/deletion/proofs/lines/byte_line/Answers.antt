-- `deletion::lines::byte_line` meets its contract: the third byte is the word's lowest. Assumes nothing.
use Rattle.deletion.proofs.Said.{lined_as, byte-said}
use Rattle.deletion.proofs.lines.byte_line.Goals as goal

pub returns : goal.returns
returns c = let a = c.args in lined_as (byte-said a.kind a.w _ c.low.ensures) c.line.ensures
