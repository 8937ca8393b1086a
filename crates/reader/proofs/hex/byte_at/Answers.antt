-- `reader::hex::byte_at` meets its contract: the two digits stand for the byte. Assumes nothing.
use Rattle.std.proofs.Common.{arith}
use Rattle.reader.proofs.HexLaws.{Byte, byte-here}
use Rattle.reader.proofs.hex.byte_at.Goals as goal
use Rattle.reader.proofs.hex.byte_at.Goals.{After-digit-l}

pair : (c : After-digit-l) → Byte c.args.s.now c.args.k c.digit-h.result c.digit-l.result
pair c = byte-here _ _ _ _ c.requires.0 c.requires.1 c.digit-h.ensures c.digit-l.ensures

pub overflow_mul-result : goal.overflow_mul-result
overflow_mul-result c = omega (arith, (pair (goal.at.overflow_mul-result c).After-digit-l).high)

pub overflow_add-result : goal.overflow_add-result
overflow_add-result c = omega (arith, (pair (goal.at.overflow_add-result c).After-digit-l).high, (pair (goal.at.overflow_add-result c).After-digit-l).low)

pub returns : goal.returns
returns c = (pair (goal.at.returns c).After-digit-l).byte
