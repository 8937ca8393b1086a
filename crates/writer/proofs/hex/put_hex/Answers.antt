-- `writer::hex::put_hex` meets its contract: two digits, one after the other. Assumes nothing.
use Rattle.writer.proofs.HexPuts.{one_byte}
use Rattle.writer.proofs.hex.put_hex.Goals as goal

pub returns : goal.returns
returns c =
    let a = c.args in
    one_byte a.out.now _ _ a.at a.b _ _ c.digit_of-high.ensures c.digit_of-low.ensures
    c.put.ensures
    c.put-2.ensures
