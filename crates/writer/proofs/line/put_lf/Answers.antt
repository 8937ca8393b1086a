-- `writer::line::put_lf` meets its contract: one store. Assumes nothing.
use Rattle.writer.proofs.HexPuts.{lf}
use Rattle.writer.proofs.line.put_lf.Goals as goal

pub returns : goal.returns
returns c =
    let a = c.args in
    lf a.out.now _ a.at c.put.ensures
